-- The test whether head and arrays are a sheet. Where the width is not 0: its shape, and then what is kept. Where it is 0: that nothing
-- is in any place. Assumes nothing.
use mathlib.Core.Path.{◌≡◌, refl, sym, ap, ◌∙◌}
use mathlib.Core.Bool.{Bool, true, false, ◌&&◌, and_assoc}
use mathlib.Core.List.{List}
use Prim.Native.Nat.{ℕ}
use borrow.Author.Tests.{eq-eqb, ne_eqb}
use lib.Dec.{eqb, leb}
use lib.ListN.{take}
use Rattle.word.specs.declared.Edition.TheVariants.{Old}
use Rattle.word.specs.Edition.{same, terms}
use Rattle.rule.specs.declared.Rule.{Rule}
use Rattle.rule.specs.accept.Accept.{every, is_no_rule}
use Rattle.rule.specs.declared.bits.Fixed.{Fixed}
use Rattle.search.specs.verdict.Kept.{keeps, kept}
use Rattle.page.specs.route.Shape.{is_zero, marks_shaped, rising, rules_shaped}
use Rattle.sheet.specs.declared.slate.Head.{Head}
use Rattle.sheet.specs.slate.route.Held.{found_to}
use Rattle.sheet.specs.slate.route.Shape.{in_force, same_kept, stands_so, well_shaped}

module _ (h : Head) (rs : List Rule) (ms : List ℕ) where
  -- the test reads neither the head's own word nor the bits
  pub unread : (b : Bool) (f : Fixed) → stands_so (found_to h b f) rs ms ≡ stands_so h rs ms
  unfolding stands_so well_shaped
  unread b f = refl

  -- the shape where the width is not 0
  abbrev pub shape : Bool
  shape = well_shaped h rs ms && leb h.opening.width (terms h.opening.edition).widest

  module _ (open_sheet : h.opening.width ≡ 0 → ⊥) where
    abbrev keeps_so : Bool
    keeps_so = same_kept h.kept (kept h.opening.width (take h.counts.count rs))

    pub told : stands_so h rs ms ≡ (shape && keeps_so)
    unfolding stands_so
    told = rw (ne_eqb h.opening.width 0 open_sheet) (sym (and_assoc (well_shaped h rs ms) (leb h.opening.width (terms h.opening.edition).widest) _))

    pub told_out : shape ≡ false → false ≡ stands_so h rs ms
    told_out e = sym (told ∙ ap (λ (b : Bool). b && keeps_so) e)

    pub told_kept : shape ≡ true → keeps_so ≡ stands_so h rs ms
    told_kept e = sym (told ∙ ap (λ (b : Bool). b && keeps_so) e)

  -- where the width is 0 in the old edition, and no rule is given and no mark set or waiting
  module _ (width : h.opening.width ≡ 0) (edition : same h.opening.edition Old ≡ true) (given : h.counts.given ≡ 0) (marked : h.counts.marked ≡ 0) (waiting : h.counts.waiting ≡ 0) where
    blank_told : stands_so h rs ms ≡ ((eqb h.counts.count 0 && (every is_no_rule rs && every is_zero ms)) && same_kept h.kept (keeps 0 0 0))
    unfolding stands_so well_shaped in_force rules_shaped marks_shaped every rising
    blank_told = rw (width, edition, given, marked, waiting)

    pub blank_count : (h.counts.count ≡ 0 → ⊥) → false ≡ stands_so h rs ms
    blank_count z = sym (blank_told ∙ rw (ne_eqb h.counts.count 0 z))

    module _ (count : h.counts.count ≡ 0) where
      pub blank_rules : every is_no_rule rs ≡ false → false ≡ stands_so h rs ms
      blank_rules e = sym (blank_told ∙ rw (eq-eqb h.counts.count 0 count, e))

      module _ (rules : every is_no_rule rs ≡ true) where
        pub blank_marks : every is_zero ms ≡ false → false ≡ stands_so h rs ms
        blank_marks e = sym (blank_told ∙ rw (eq-eqb h.counts.count 0 count, rules, e))

        pub blank_kept : every is_zero ms ≡ true → same_kept h.kept (keeps 0 0 0) ≡ stands_so h rs ms
        blank_kept e = sym (blank_told ∙ rw (eq-eqb h.counts.count 0 count, rules, e))
