-- What a page accepts it has room for, and the list has a name for each rule in force and for each that waits: a rule and a gate cut it to those in
-- force and add theirs, a step back and a step forward leave both. So the rows have the clerk's names. Assumes nothing.
use mathlib.Core.Path.{◌≡◌, refl, sym, ap, subst, ◌∙◌}
use mathlib.Core.Bool.{Bool, true, false, false≢true, cond}
use mathlib.Core.List.{List, [], ◌∷◌, ◌++◌}
use Prim.Native.Nat.{ℕ, ◌+◌, ◌≤◌}
use Rattle.std.specs.Prelude.{Ok, Err}
use native.Mathlib.Omega.{arith}
use borrow.Author.Tests.{eq-eqb, eqb-true}
use lib.Dec.{eqb}
use lib.ListN.{length, length-append, length-replicate, length-take, replicate, take}
use Rattle.rule.specs.declared.Rule.{Rule}
use Rattle.gate.specs.declared.Gate.{Gate}
use Rattle.gate.specs.Gate.{gate_rules}
use Rattle.word.specs.declared.Edition.TheVariants.{New}
use Rattle.page.specs.Calls.{add, after, back, changed, forward, mark, open_at, refusal, rules_of, set_gate, written}
use Rattle.page.specs.Page.{Entry, OpenPage, Page, at_width, entries_of, laid_aside, no_page, page, restored, rules_on, taken_up}
use Rattle.page.proofs.Refusals.{added_rule, after_accepted, blank_add}
use Rattle.page.proofs.Gates.{blank_gate, gate_four, gate_set, with_rules_lem}
use Rattle.page.proofs.Stretches.{restored_rules, stretch-struck, waiting_rules}
use Rattle.line.specs.declared.Statement.{Statement}
use Rattle.line.specs.declared.Statement.TheVariants as said
use Rattle.dialogue.specs.declared.upshot.Response.{Response}
use Rattle.dialogue.specs.declared.upshot.Response.TheVariants.{Done}
use Rattle.dialogue.specs.saying.Says.{Wanted, at_least, at_most, within}
use Rattle.dialogue.specs.Heard.{answer_on, ending, gate_answer, gate_page, numbered, page_on}
use Rattle.naming.specs.Names.{kept, new_rules, put, row_of}
use Rattle.naming.proofs.Rows.{put_nothing}
use Rattle.naming.specs.named.Named.{Holds, names_after, no_zero}
use Rattle.naming.proofs.named.Named.{holds_after, kept-length}
use Rattle.naming.specs.spoken.Spoken.{Spoken, next, nothing}

-- a name for each rule in force, and for each that waits
abbrev pub Covers : Page → List (List ℕ) → Type 0
Covers no_page ns = Unit {0}
Covers (page o) ns = length (rules_on (restored o.pile o.entries)) ≤ length ns

in_force : (pg : Page) (ns : List (List ℕ)) → Covers pg ns → length (rules_of pg) ≤ length ns
unfolding rules_of entries_of rules_on
in_force no_page ns c = omega arith
in_force (page o) ns c = omega (arith, c, ap length (restored_rules o.pile o.entries), length-append (rules_on o.entries) (waiting_rules o.pile))

-- what is answered so was not refused
taken : (k : ℕ) → ending (numbered k Done) ≡ false → k ≡ 0
unfolding ending numbered
taken k e = by_test (eqb k 0) refl e
  where
    by_test : (t : Bool) → eqb k 0 ≡ t → ending (cond t Done (Response.Refused k)) ≡ false → k ≡ 0
    by_test true q z = eqb-true k 0 q
    by_test false q z = absurd (false≢true (sym z))

-- a list that is cut to the rules in force and gets k names more
longer : (k count : ℕ) (name : List ℕ) (ns : List (List ℕ)) → count ≤ length ns → length (take count ns ++ replicate k name) ≡ count + k
longer k count name ns h = omega (arith, length-append (take count ns) (replicate k name), length-replicate k name, length-take count ns)

-- a statement that adds no rule leaves rows and list
left_so : (st : Statement) (count : ℕ) (name : List ℕ) (ns : List (List ℕ)) → new_rules st ≡ 0 → names_after st count name ns ≡ ns
unfolding names_after
left_so st count name ns e = rw (eq-eqb (new_rules st) 0 e)

leaves : (st : Statement) (count : ℕ) (name : List ℕ) (rows ns : List (List ℕ)) → new_rules st ≡ 0 → Holds rows ns → Holds (kept st count name rows) (names_after st count name ns)
unfolding kept
leaves st count name rows ns e holds =
    rw (left_so st count name ns e) (subst (λ (k : ℕ). Holds (put (row_of name) k count rows) ns) (sym e) (rw (put_nothing (row_of name) count rows) holds))

-- ---- the pages

module _ (ns : List (List ℕ)) (name : List ℕ) where
  -- an accepted rule has room, and the list then has its name
  rule_covers : (pg : Page) (u : Rule) → refusal pg (add New u) ≡ 0 → Covers pg ns
      → (length (rules_of pg) + 1 ≤ 200) × Covers (after pg (add New u)) (take (length (rules_of pg)) ns ++ replicate 1 name)
  unfolding rules_of entries_of written changed restored rules_on
  rule_covers no_page u e c = absurd (omega (arith, e, blank_add New u))
  rule_covers (page o) u e c =
      let room = (added_rule o New u e).2 in
      let here = in_force (page o) ns c in (
        omega arith,
        rw (after_accepted (page o) (add New u) e) (omega (arith, length-append (rules_on o.entries) (u ∷ []), longer 1 (length (rules_on o.entries)) name ns here)),
      )

  gate_covers : (pg : Page) (g : Gate) → refusal pg (set_gate g) ≡ 0 → Covers pg ns
      → (length (rules_of pg) + 4 ≤ 200) × Covers (after pg (set_gate g)) (take (length (rules_of pg)) ns ++ replicate 4 name)
  unfolding rules_of entries_of written changed restored rules_on
  gate_covers no_page g e c = absurd (omega (arith, e, blank_gate g))
  gate_covers (page o) g e c =
      let room = (gate_set o g e).2 in
      let here = in_force (page o) ns c in (
        omega arith,
        rw (after_accepted (page o) (set_gate g) e)
            (omega (arith, ap length (with_rules_lem (gate_rules g) o.entries), length-append (rules_on o.entries) (gate_rules g), gate_four g, longer 4 (length (rules_on o.entries)) name ns here)),
      )

  -- a new page has no rules, a mark leaves them, and a step back and a step forward leave what is restored
  open_covers : (pg : Page) (n : ℕ) → refusal pg (open_at (at_width n New)) ≡ 0 → Covers (after pg (open_at (at_width n New))) ns
  unfolding written restored rules_on
  open_covers pg n e = rw (after_accepted pg (open_at (at_width n New)) e) (omega arith)

  mark_covers : (pg : Page) → refusal pg mark ≡ 0 → Covers pg ns → Covers (after pg mark) ns
  unfolding rules_of entries_of written changed restored rules_on
  mark_covers no_page e c = rw (after_accepted no_page mark e) c
  mark_covers (page o) e c = let here = in_force (page o) ns c in rw (after_accepted (page o) mark e) here

  back_covers : (pg : Page) → refusal pg back ≡ 0 → Covers pg ns → Covers (after pg back) ns
  unfolding written changed laid_aside restored
  back_covers no_page e c = rw (after_accepted no_page back e) c
  back_covers (page o) e c = rw (after_accepted (page o) back e) (subst (λ (es : List Entry). length (rules_on (restored o.pile es)) ≤ length ns) (sym (stretch-struck o.entries)) c)

  up : (o : OpenPage) (ss : List (List Entry)) → o.pile ≡ ss → Covers (page o) ns → Covers (page (taken_up ss o)) ns
  unfolding taken_up restored
  up o [] q c = c
  up o (s ∷ ss) q c = rw q at c

  forward_covers : (pg : Page) → refusal pg forward ≡ 0 → Covers pg ns → Covers (after pg forward) ns
  unfolding written changed
  forward_covers no_page e c = rw (after_accepted no_page forward e) c
  forward_covers (page o) e c = rw (after_accepted (page o) forward e) (up o o.pile refl c)

-- ---- statements

-- what a statement makes of the rows and of the page
record Step (m : ℕ) (pg : Page) (st : Statement) (name : List ℕ) (rows ns : List (List ℕ)) : Type 0 where
  holds : Holds (kept st (length (rules_of pg)) name rows) (names_after st (length (rules_of pg)) name ns)
  covers : Covers (page_on pg st) (names_after st (length (rules_of pg)) name ns)

module _ (m : ℕ) (pg : Page) (name : List ℕ) (rows ns : List (List ℕ)) (full : length rows ≡ 200) (fits : no_zero name ≡ true) (short : length name ≤ 1024) (c : Covers pg ns) (h : Holds rows ns) where
  here : length (rules_of pg) ≤ length ns
  here = in_force pg ns c

  still : (st : Statement) → new_rules st ≡ 0 → Covers (page_on pg st) ns → Step m pg st name rows ns
  still st e g = record { holds = leaves st (length (rules_of pg)) name rows ns e h; covers = rw (left_so st (length (rules_of pg)) name ns e) g }

  more : (st : Statement) → length (rules_of pg) + new_rules st ≤ 200 → Covers (page_on pg st) (names_after st (length (rules_of pg)) name ns) → Step m pg st name rows ns
  more st room g = record { holds = holds_after rows ns (length (rules_of pg)) name full fits short here st room h; covers = g }

  ruled : (u : Rule) → ending (answer_on m pg (said.Rule u)) ≡ false → Step m pg (said.Rule u) name rows ns
  unfolding answer_on page_on new_rules names_after
  ruled u e = let r = rule_covers ns name pg u (taken _ e) c in more (said.Rule u) r.0 r.1

  gated : (w : Wanted) → ending (gate_answer pg w) ≡ false
      → (length (rules_of pg) + 4 ≤ 200) × Covers (gate_page pg w) (take (length (rules_of pg)) ns ++ replicate 4 name)
  unfolding gate_answer gate_page ending
  gated (Ok g) e = gate_covers ns name pg g (taken _ e) c
  gated (Err x) e = absurd (false≢true (sym e))

  step : (st : Statement) → ending (answer_on m pg st) ≡ false → Step m pg st name rows ns
  unfolding answer_on page_on new_rules names_after
  step said.Blank e = still said.Blank refl c
  step (said.Rule u) e = ruled u e
  step (said.AtLeast a) e = let g = gated (at_least a) e in more (said.AtLeast a) g.0 g.1
  step (said.AtMost a) e = let g = gated (at_most a) e in more (said.AtMost a) g.0 g.1
  step (said.Within a b) e = let g = gated (within a b) e in more (said.Within a b) g.0 g.1
  step (said.Open n) e = still (said.Open n) refl (open_covers ns name pg n (taken _ e))
  step said.Mark e = still said.Mark refl (mark_covers ns name pg (taken _ e) c)
  step said.Back e = still said.Back refl (back_covers ns name pg (taken _ e) c)
  step said.Forward e = still said.Forward refl (forward_covers ns name pg (taken _ e) c)
  step said.Ask e = still said.Ask refl c
  step said.Count e = still said.Count refl c
  step (said.List l) e = still (said.List l) refl c
  step (said.Why x) e = still (said.Why x) refl c
  step said.Show e = still said.Show refl c
  step (said.Wrong x) e = still (said.Wrong x) refl c

-- After any accepted statements each row has the clerk's name, and the clerk has one for each rule in force.
pub always_named : {m : ℕ} {pg pg' : Page} {rows ns rows' ns' : List (List ℕ)} → length rows ≡ 200 → Covers pg ns → Holds rows ns
    → Spoken m pg rows ns pg' rows' ns' → Holds rows' ns' × (length (rules_of pg') ≤ length ns')
always_named {pg = pg} {ns = ns} full c h nothing = (h, in_force pg ns c)
always_named {m} {pg} {rows = rows} {ns = ns} full c h (next st name e fits short rest) =
    let s = step m pg name rows ns full fits short c h st e in
    always_named (kept-length st (length (rules_of pg)) name rows ∙ full) s.covers s.holds rest

pub from_the_start : {m : ℕ} {pg : Page} {rows rows' ns : List (List ℕ)} → length rows ≡ 200 → Spoken m no_page rows [] pg rows' ns → Holds rows' ns × (length (rules_of pg) ≤ length ns)
from_the_start full said = always_named full tt (record { same = λ i h. absurd (omega arith) }) said
