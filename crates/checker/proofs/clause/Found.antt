-- What is found of a record that is laid out: where it is no sheet or blank, or the list empty or no whole links, the check says no, and
-- else both are said of the links. Assumes nothing.
use mathlib.Core.Path.{◌≡◌, refl, sym, ap, ◌∙◌}
use mathlib.Core.Bool.{Bool, true, false, false≢true, not, ◌&&◌, cond}
use mathlib.Core.List.{List, ◌++◌}
use Prim.Native.Nat.{ℕ, ◌%◌}
use native.Mathlib.Omega.{arith}
use borrow.Author.Tests.{eq-eqb, eqb-true}
use lib.Dec.{eqb}
use lib.ListN.{length, length-map, take}
use lib.Seq.{length-take-le}
use Rattle.std.specs.Prelude.{◌↔◌, Result, Ok, Err}
use Rattle.std.specs.Result.{is_ok}
use Rattle.checker.specs.Accepted.{Accepted}
use Rattle.word.proofs.Widths.{half_pos, halves}
use Rattle.rule.specs.declared.Rule.{Rule}
use Rattle.sheet.specs.declared.slate.Head.{Head}
use Rattle.sheet.specs.slate.route.Held.{Held}
use Rattle.sheet.specs.declared.Sheet.{Sheet}
use Rattle.sheet.specs.route.Held.{packed}
use Rattle.sheet.proofs.Holding.{packed_told}
use Rattle.search.specs.rows.route.Rows.{rule_in, rules_in}
use Rattle.checker.specs.covering.Check.{links_in, shown, shown_by}
use Rattle.checker.specs.Check.{accepts}
use Rattle.checker.proofs.Held.{blank_no, empty_no, lie_so, no_sheet_no, says, shown_so, width_so}
use Rattle.checker.specs.declared.finding.Breach.{Breach}
use Rattle.checker.specs.declared.finding.Breach.TheVariants.{Empty, NoSheet, Ragged}
use Rattle.checker.specs.finding.Clauses.{first_broken, list_clauses}
use Rattle.checker.proofs.finding.Broken.{goes_on, stops}
use Rattle.checker.proofs.breach.Exactly.{yes_shown}
use Rattle.checker.specs.outset.route.Outset.{outset_clauses}
use Rattle.checker.specs.clause.Finding.{clauses_of, finding}

-- what the call promises of its answer
pub record Right (s : Sheet) (ns : List ℕ) (f : Result Unit Breach) : Type 0 where
  pub value : f ≡ finding s ns
  pub result_value : is_ok f ≡ accepts s ns
  pub accepted : is_ok f ≡ true ↔ Accepted s ns

-- by the tests of the record and of the list
by_tests : (a b c d : Bool) → Result Unit Breach
by_tests a b c d = cond a (cond (not b) (cond (not c) (cond d (Ok tt) (Err Ragged)) (Err Empty)) (Err NoSheet)) (Err NoSheet)

-- where nothing is found by them, all hold
all_hold : (a b c d : Bool) → by_tests a b c d ≡ Ok tt → (a ≡ true) × (b ≡ false) × (c ≡ false) × (d ≡ true)
unfolding by_tests
all_hold false b c d y = cc
all_hold true true c d y = cc
all_hold true false true d y = cc
all_hold true false false false y = cc
all_hold true false false true y = (refl, refl, refl, refl)

-- no number is 0 of which that is not told
not_zero : (n : ℕ) → eqb n 0 ≡ false → n ≡ 0 → ⊥
not_zero n e z = false≢true (sym e ∙ eq-eqb n 0 z)

module _ {h : Head} {rows : List (List ℕ)} {marks : List ℕ} (held : Held h rows marks) (ns : List ℕ) where
  abbrev s : Sheet
  s = packed h rows marks

  abbrev w : ℕ
  w = h.opening.width

  abbrev own : List Rule
  own = take h.counts.count (rules_in rows)

  abbrev pub links : Result Unit Breach
  links = first_broken (list_clauses w own 0 0 (links_in ns))

  abbrev pub early : Result Unit Breach
  early = first_broken (outset_clauses h.stands (eqb w 0) (length ns))

  early_as : early ≡ by_tests h.stands (eqb w 0) (eqb (length ns) 0) (eqb (length ns % 3) 0)
  unfolding by_tests first_broken outset_clauses
  early_as = refl

  -- the tests, and then the links
  found_as : first_broken (outset_clauses h.stands (eqb w 0) (length ns) ++ list_clauses w own 0 0 (links_in ns)) ≡ finding s ns
  unfolding finding clauses_of outset_clauses packed
  found_as =
      ap (λ (b : Bool). first_broken (outset_clauses b (eqb w 0) (length ns) ++ list_clauses w own 0 0 (links_in ns))) (held.tested ∙ sym (packed_told h rows marks))

  no_by : (a b c d : Bool) → h.stands ≡ a → eqb w 0 ≡ b → eqb (length ns) 0 ≡ c → eqb (length ns % 3) 0 ≡ d
      → is_ok (by_tests a b c d) ≡ false → false ≡ accepts s ns
  unfolding by_tests shown_by
  no_by false b c d p q r t n = no_sheet_no held p ns
  no_by true true c d p q r t n = blank_no held (eqb-true w 0 q) ns
  no_by true false true d p q r t n = empty_no s ns (eqb-true (length ns) 0 r)
  no_by true false false false p q r t n = sym (ap (λ (b : Bool). b && shown w own (links_in ns)) t) ∙ shown_so held p (not_zero w q) ns
  no_by true false false true p q r t n = absurd (false≢true (sym n))

  right : (f : Result Unit Breach) → f ≡ finding s ns → is_ok f ≡ accepts s ns → Right s ns f
  right f a b = let p = says held ns (is_ok f) b in record { value = a; result_value = p.0; accepted = p.1 }

  -- something is found before the links
  pub found_early : (f : Breach) → early ≡ Err f → Right s ns (Err f)
  found_early f n =
      right (Err f) (stops _ (list_clauses w own 0 0 (links_in ns)) f n ∙ found_as)
      (no_by _ _ _ _ refl refl refl refl (sym (ap is_ok early_as) ∙ ap is_ok n))

  -- nothing is
  module _ (y : early ≡ Ok tt) where
    tests : (h.stands ≡ true) × (eqb w 0 ≡ false) × (eqb (length ns) 0 ≡ false) × (eqb (length ns % 3) 0 ≡ true)
    tests = all_hold h.stands (eqb w 0) (eqb (length ns) 0) (eqb (length ns % 3) 0) (sym early_as ∙ y)

    pub stands : h.stands ≡ true
    stands = tests.0

    pub wide : w ≡ 0 → ⊥
    wide = not_zero w tests.1

    pub whole : length ns % 3 ≡ 0
    whole = eqb-true (length ns % 3) 0 tests.3

    pub walked : Right s ns links
    unfolding shown_by
    walked =
        let lie = lie_so held stands wide in
        let few = length-take-le h.counts.count (rules_in rows) (omega (arith, lie.count, held.room.rows_places, length-map rows rule_in)) in
        right links (goes_on _ (list_clauses w own 0 0 (links_in ns)) y ∙ found_as)
        (yes_shown w own (omega (arith, lie.count)) (omega (arith, halves w (width_so held stands wide).low, half_pos w)) (links_in ns)
        ∙ sym (ap (λ (b : Bool). b && shown w own (links_in ns)) tests.3)
        ∙ shown_so held stands wide ns)
