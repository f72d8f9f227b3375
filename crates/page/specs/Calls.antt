-- The calls, when each is refused, and what the clerk then writes (01, "When the desk says no").
use Rattle.std.specs.Prelude.{Bool, true, false, not, ◌&&◌, List, [], ◌∷◌, ◌++◌, ℕ, ◌-◌, eqb, leb, ltb, length, replicate}
use Rattle.word.specs.declared.Edition.{Edition}
use Rattle.word.specs.Edition.{same, terms}
use Rattle.rule.specs.declared.Rule.{Rule}
use Rattle.rule.specs.Meaning.{RULES}
use Rattle.rule.specs.accept.Accept.{rule_grounds}
pub use Rattle.rule.specs.accept.Grounds.{Ground, ground}
unfoldable pub use Rattle.rule.specs.accept.Grounds.{first_that_applies}
use Rattle.gate.specs.declared.Gate.{Gate}
use Rattle.gate.specs.Gate.{gate_rules, not_numbers}
use Rattle.chain.specs.Links.{chain_room}
use Rattle.page.specs.declared.Opening.{Opening}
use Rattle.page.specs.Page.{Entry, MARKS, OpenPage, Page, a_mark, a_rule, edition_of, entries_of, laid_aside, marks_on, new_page, no_page, page, pile_of, rules_on, taken_up, width_of, with_entries}

-- a call with what it is handed: an add has the edition of its frame, and of the buffer only its length counts
pub data Call : Type 0 where
  open_at : Opening → Call
  add : Edition → Rule → Call
  mark : Call
  back : Call
  forward : Call
  ask : (room : ℕ) → Call
  set_gate : Gate → Call

unfoldable pub is_blank : Page → Bool
is_blank no_page = true
is_blank (page o) = false

-- the rules and the marks in force
unfoldable pub rules_of : Page → List Rule
rules_of pg = rules_on (entries_of pg)

unfoldable pub marks_of : Page → List ℕ
marks_of pg = marks_on (entries_of pg)

-- the table, a row for each number, of a call on the sheet that a page gives (3, 4 and 5: `rule_grounds`); a gate's in the paper's order,
-- "17, 1, 13, 14, 6"
unfoldable pub grounds : Page → Call → List Ground
grounds pg (open_at g) = ground 2 (not (leb 1 g.width && leb g.width (terms g.edition).widest)) ∷ []
grounds pg (add e r) =
    ground 1 (is_blank pg)
    ∷ (ground 11 (not (same e (edition_of pg)))
    ∷ (rule_grounds (width_of pg) r
    ++ ground 6 (leb RULES (length (rules_of pg)))
    ∷ []))
grounds pg mark = ground 1 (is_blank pg) ∷ ground 7 (leb MARKS (length (marks_of pg))) ∷ []
grounds pg back = ground 1 (is_blank pg) ∷ ground 8 (eqb (length (marks_of pg)) 0) ∷ []
grounds pg forward = ground 1 (is_blank pg) ∷ ground 12 (eqb (length (pile_of pg)) 0) ∷ []
grounds pg (ask m) = ground 1 (is_blank pg) ∷ ground 9 (ltb m (chain_room (length (rules_of pg)))) ∷ []
grounds pg (set_gate g) = ground 1 (is_blank pg) ∷ ground 13 (not (eqb (width_of pg) 32)) ∷ ground 14 (not_numbers g) ∷ ground 6 (ltb (RULES - length (rules_of pg)) 4) ∷ []

-- the number that is given, 0 where the call is accepted
unfoldable pub refusal : Page → Call → ℕ
refusal pg c = first_that_applies (grounds pg c)

-- an open page that the clerk changes so
unfoldable pub changed : Page → (OpenPage → OpenPage) → Page
changed no_page f = no_page
changed (page o) f = page (f o)

-- rules written below what stands, the first one first
unfoldable pub with_rules : List Rule → List Entry → List Entry
with_rules [] es = es
with_rules (r ∷ rs) es = with_rules rs (a_rule r ∷ es)

-- what the clerk does at an accepted call: a new page, one entry more, a stretch struck out or written back, or nothing; "a gate counts
-- as its four rules, and as an accepted add it empties what waits"
unfoldable pub written : Page → Call → Page
written pg (open_at g) = page (new_page g)
written pg (add e r) = changed pg (λ o. with_entries o (a_rule r ∷ o.entries))
written pg mark = changed pg (λ o. with_entries o (a_mark ∷ o.entries))
written pg back = changed pg laid_aside
written pg forward = changed pg (λ o. taken_up o.pile o)
written pg (ask m) = pg
written pg (set_gate g) = changed pg (λ o. with_entries o (with_rules (gate_rules g) o.entries))

-- the page after a call, accepted or refused
unfoldable pub after : Page → Call → Page
after pg c = elim (eqb (refusal pg c) 0) [ true ↦ written pg c | false ↦ pg ]

-- the page after calls, the first one first
unfoldable pub clerk : Page → List Call → Page
clerk pg [] = pg
clerk pg (c ∷ cs) = clerk (after pg c) cs

-- none of these calls is refused
unfoldable pub accepts : Page → List Call → Bool
accepts pg [] = true
accepts pg (c ∷ cs) = eqb (refusal pg c) 0 && accepts (after pg c) cs

-- the call that writes an entry, on a page of an edition
unfoldable pub enters : Edition → Entry → Call
enters e (a_rule r) = add e r
enters e a_mark = mark

-- the calls that give what stands, the oldest entry first
unfoldable pub gives : Edition → List Entry → List Call
gives e [] = []
gives e (x ∷ xs) = gives e xs ++ enters e x ∷ []

-- "then every waiting stretch, the one next to come back first"
unfoldable pub gives_each : Edition → List (List Entry) → List Call
gives_each e [] = []
gives_each e (s ∷ ss) = gives e s ++ gives_each e ss

-- "a fresh one given what stands on the page, then every waiting stretch, ..., and then taken back once for each of them": the calls
-- that a page and its pile replay, "opened at that width and edition"
unfoldable pub replay : Page → List Call
replay no_page = []
replay (page o) =
    let e : Edition = o.opening.edition in
    open_at o.opening ∷ (gives e o.entries ++ (gives_each e o.pile ++ replicate (length o.pile) back))
