-- Every number of an answer fits its digits: on the sheet of a page words have at most those of its edition, verdicts, reasons and the numbers of
-- refusals two. Assumes nothing.
use mathlib.Core.Path.{◌≡◌, refl}
use mathlib.Core.Logic.{⊎_elim}
use mathlib.Core.Bool.{Bool, true, false, cond}
use mathlib.Core.List.{List, [], ◌∷◌}
use Prim.Native.Nat.{ℕ, ◌^◌, ◌≤◌, ◌<◌}
use native.Mathlib.Decide.{ℕ_discrete}
use native.Mathlib.Omega.{arith}
use borrow.Author.Tests.{eq-eqb, ne_eqb}
use lib.Dec.{eqb}
use lib.ListN.{length}
use lib.Pow.{pow_mono}
use Rattle.word.specs.declared.Edition.{Edition}
use Rattle.word.specs.declared.Edition.TheVariants.{Old}
use Rattle.std.specs.Prelude.{Option}
use Rattle.std.specs.Prelude.{Some, None}
use Rattle.word.specs.Edition.{terms}
use Rattle.word.specs.Search.{first, last}
use Rattle.word.specs.Word.{top}
use Rattle.word.proofs.Searched.{first_is, last_is}
use Rattle.word.proofs.Widths.{top-suc}
use Rattle.rule.specs.declared.Rule.{Rule}
use Rattle.rule.specs.Meaning.{RULES, fits}
use Rattle.rule.specs.accept.Accept.{rule_grounds}
use Rattle.search.specs.declared.verdict.Kept.{Kept}
use Rattle.search.specs.verdict.Kept.{kept, verdict_of}
use Rattle.chain.specs.declared.Link.{Link}
use Rattle.chain.specs.Findings.{findings, chain_for}
use Rattle.chain.specs.Chain.{Covers, Shows, end, on}
use Rattle.chain.specs.Links.{links}
use Rattle.chain.proofs.Cover.{chain_covers}
use Rattle.chain.proofs.Steps.{chain_is}
use Rattle.chain.proofs.Walk.{none_fits}
use Rattle.page.specs.Calls.{Call, Ground, add, ask, back, first_that_applies, forward, grounds, mark, open_at, refusal, rules_of, set_gate}
use Rattle.page.specs.Page.{Page, edition_of, entries_of, no_page, page, rules_on, width_of}
use Rattle.page.specs.Reached.{Reached}
use Rattle.page.proofs.Lawful.{reached_lawful}
use Rattle.frame.specs.fields.Answers.{ACCEPTED, NO_FRAME, REFUSED, chain_lines, kept_line, link_line, number_line}
use Rattle.frame.specs.Calls.{MadeCall, asks, makes, none}
use Rattle.frame.specs.fields.Fields.{AllInDigits, BYTE, InDigits, WORD, byte}
use Rattle.frame.specs.Pages.{answer_to}
use Rattle.word.proofs.Editions.{widest_fits}

-- a word of a sheet fits the digits of a word
word_fits : (e : Edition) (w x : ℕ) → w ≤ (terms e).widest → x < 2 ^ w → x < 16 ^ WORD e
word_fits e w x h k = let m = pow_mono {i = w} {j = (terms e).widest} h in omega (arith, widest_fits e)

module _ (d : Edition) (w : ℕ) (rs : List Rule) (narrow : w ≤ (terms d).widest) (few : length rs ≤ RULES) where
  link_in : (l : Link) → l.from ≤ l.to → l.to ≤ top w → l.reason < 16 ^ BYTE → InDigits (link_line d l.from l.to l.reason)
  unfolding InDigits
  link_in l h k r = (
    omega arith,
    (
      word_fits d w l.from narrow (omega (arith, top-suc w)),
      (word_fits d w l.to narrow (omega (arith, top-suc w)), (r, tt)),
    ),
  )

  link_fits : (l : Link) → Shows w rs l → InDigits (link_line d l.from l.to l.reason)
  link_fits l =
      ⊎_elim (λ f. link_in l f.order f.word (omega (arith, f.plain.there))) (λ b. link_in l b.1.order b.1.word (omega (arith, b.0)))

  chain_fits : {p : ℕ} {ls : List Link} → Covers w rs p ls → AllInDigits (chain_lines d ls)
  unfolding AllInDigits chain_lines
  chain_fits (end e) = tt
  chain_fits (on e s c) = (link_fits _ s, chain_fits c)

kept_fits : (d : Edition) (w : ℕ) (rs : List Rule) → w ≤ (terms d).widest → InDigits (kept_line d (kept w rs))
unfolding kept verdict_of InDigits
kept_fits d w rs h = go (first (fits w rs) (2 ^ w) 0) refl (last (fits w rs) (2 ^ w)) refl
  where
    small : (t : Bool) → cond t 1 2 < 16 ^ BYTE
    small true = omega arith
    small false = omega arith

    zero : 0 < 16 ^ WORD d
    zero = word_fits d 0 0 (omega arith) (omega arith)

    go : (a : Option ℕ) → first (fits w rs) (2 ^ w) 0 ≡ a → (b : Option ℕ) → last (fits w rs) (2 ^ w) ≡ b → InDigits (kept_line d (verdict_of a b))
    go None e b f = (omega arith, (omega arith, (zero, (zero, tt))))
    go (Some x) e None f = (omega arith, (omega arith, (zero, (zero, tt))))
    go (Some x) e (Some y) f =
        let low = word_fits d w x h (omega (arith, (first_is (fits w rs) (2 ^ w) 0 x e).high)) in
        let high = word_fits d w y h (omega (arith, (last_is (fits w rs) (2 ^ w) y f).high)) in
        (omega arith, (small (eqb x y), (low, (high, tt))))

-- a chain is written for "none" only
chain_for_fits : (d : Edition) (w : ℕ) (rs : List Rule) (k : Kept)
    → (k.verdict ≡ 0 → AllInDigits (chain_lines d (links w rs))) → AllInDigits (chain_lines d (chain_for w rs k))
unfolding chain_for chain_lines AllInDigits
chain_for_fits d w rs k f = go (ℕ_discrete k.verdict 0)
  where
    go : Dec (k.verdict ≡ 0) → AllInDigits (chain_lines d (chain_for w rs k))
    go (yes e) = rw (eq-eqb k.verdict 0 e, chain_for) (f e)
    go (no n) = rw (ne_eqb k.verdict 0 n, chain_for) tt

-- what is said of rules on a sheet
findings_fit : (d : Edition) (w : ℕ) (rs : List Rule) → w ≤ (terms d).widest → length rs ≤ RULES
    → AllInDigits (kept_line d (findings w rs).kept ∷ chain_lines d (findings w rs).chain)
unfolding findings AllInDigits
findings_fit d w rs narrow few = (
  kept_fits d w rs narrow,
  chain_for_fits d w rs (kept w rs) (λ e. chain_fits d w rs narrow few (chain_covers w rs (chain_is w rs (none_fits w rs e)))),
)

-- ---- refusals

-- every number of the table has two digits at most
Small : List Ground → Type 0
Small [] = Unit
Small (g ∷ gs) = (g.number < 16 ^ BYTE) × Small gs

first_small : (gs : List Ground) → Small gs → first_that_applies gs < 16 ^ BYTE
unfolding first_that_applies Small
first_small [] h = omega arith
first_small (g ∷ gs) h = go g.applies h.0 (first_small gs h.1)
  where
    go : (b : Bool) → g.number < 16 ^ BYTE → first_that_applies gs < 16 ^ BYTE → elim b [ true ↦ g.number | false ↦ first_that_applies gs ] < 16 ^ BYTE
    go true m n = m
    go false m n = n

table_small : (pg : Page) (c : Call) → Small (grounds pg c)
unfolding grounds rule_grounds Small
table_small pg (open_at g) = (omega arith, tt)
table_small pg (add e r) = (omega arith, (omega arith, (omega arith, (omega arith, (omega arith, (omega arith, tt))))))
table_small pg mark = (omega arith, (omega arith, tt))
table_small pg back = (omega arith, (omega arith, tt))
table_small pg forward = (omega arith, (omega arith, tt))
table_small pg (ask m) = (omega arith, (omega arith, tt))
table_small pg (set_gate g) = (omega arith, (omega arith, (omega arith, (omega arith, tt))))

refusal_small : (pg : Page) (c : Call) → refusal pg c < 16 ^ BYTE
unfolding refusal
refusal_small pg c = first_small (grounds pg c) (table_small pg c)

number_fits : (n : ℕ) → n < 16 ^ BYTE → AllInDigits (number_line n ∷ [])
unfolding AllInDigits InDigits number_line
number_fits n h = (go (eqb n 0), tt)
  where
    go : (t : Bool) → InDigits (cond t (byte ACCEPTED ∷ []) (byte REFUSED ∷ byte n ∷ []))
    go true = (omega arith, tt)
    go false = (omega arith, (h, tt))

-- ---- every number of an answer fits its digits

ask_fits : (pg : Page) → Reached pg → (m : ℕ) → AllInDigits (answer_to pg (asks m))
unfolding answer_to edition_of width_of rules_of entries_of rules_on
ask_fits pg h m = go (ℕ_discrete (refusal pg (ask m)) 0)
  where
    said : (p : Page) → Reached p → AllInDigits (kept_line (edition_of p) (findings (width_of p) (rules_of p)).kept ∷ chain_lines (edition_of p) (findings (width_of p) (rules_of p)).chain)
    said no_page r = findings_fit Old 0 [] (omega arith) (omega arith)
    said (page o) r = let l = reached_lawful r in findings_fit o.opening.edition o.opening.width (rules_on o.entries) l.high l.rules_fit

    go : Dec (refusal pg (ask m) ≡ 0) → AllInDigits (answer_to pg (asks m))
    go (yes e) = rw (eq-eqb (refusal pg (ask m)) 0 e) (said pg h)
    go (no n) = rw (ne_eqb (refusal pg (ask m)) 0 n) (number_fits _ (refusal_small pg (ask m)))

pub page_fits : (pg : Page) → Reached pg → (c : MadeCall) → AllInDigits (answer_to pg c)
unfolding answer_to
page_fits pg h none = number_fits NO_FRAME (omega arith)
page_fits pg h (makes c) = number_fits _ (refusal_small pg c)
page_fits pg h (asks m) = ask_fits pg h m
