-- A step forward on a slate: the next mark that waits says how many rules are then in force, or all are, and the rules in
-- force before are the first of them. Assumes nothing.
use mathlib.Core.Path.{◌≡◌, sym, ap, ◌∙◌}
use mathlib.Core.List.{List, ◌++◌}
use Prim.Native.Nat.{ℕ, suc, ◌+◌, ◌-◌, ◌≤◌}
use native.Mathlib.Decide.{ℕ_discrete}
use native.Mathlib.Numerals.{add-one}
use native.Mathlib.Omega.{arith}
use lib.ListN.{drop, get_or, take, take-append-drop}
use lib.Seq.{take-take}
use Rattle.rule.specs.declared.Rule.{Rule}
use Rattle.rule.specs.bits.route.Fixed.{fixed_bits}
use Rattle.page.specs.Page.{MARKS}
use Rattle.search.specs.rows.route.Rows.{bands_in, rules_in}
use Rattle.sheet.specs.declared.slate.Head.{Head}
use Rattle.sheet.specs.slate.route.Held.{Held}
use Rattle.sheet.specs.slate.route.Numbers.{before}
use Rattle.sheet.proofs.slate.Holding.{bounds_so, low_so, rules_places, shape_so}
use Rattle.sheet.proofs.slate.Shaped.{mark_low, mark_rise, none_waits, some_wait}
use Rattle.sheet.specs.slate.stepping.route.Steps.{brings}
use Rattle.sheet.specs.slate.stepping.route.Found.{Sought}
use Rattle.sheet.proofs.slate.stepping.Moved.{moved_drawn, moved_lawful, moved_sought}

module _ {h : Head} {rows : List (List ℕ)} {marks : List ℕ} (held : Held h rows marks) (e : before h.stands h.opening.width ≡ 0)
    (z : h.counts.waiting ≡ 0 → ⊥) where
  abbrev next : ℕ
  next = h.counts.marked + 1

  abbrev left : ℕ
  left = h.counts.waiting - 1

  pub marks_there : next + left ≤ MARKS
  marks_there = omega (arith, z, (shape_so held e).marks_high)

  -- where nothing waits then, all that were given; else what the next mark notes, and it rises
  between : (h.counts.count ≤ brings h marks) × (brings h marks ≤ h.counts.given)
  between = go (ℕ_discrete left 0)
    where
      go : Dec (left ≡ 0) → (h.counts.count ≤ brings h marks) × (brings h marks ≤ h.counts.given)
      go (yes l) =
          let all = none_waits h.counts.given marks next l in
          (omega (arith, all, low_so held e), omega (arith, all))
      go (no l) =
          let s = shape_so held e in
          let noted = some_wait h.counts.given marks next {waiting = left} (omega arith) in
          let counted = s.counted ∙ some_wait h.counts.given marks h.counts.marked {waiting = h.counts.waiting} (omega arith) in
          let rise = mark_rise h (rules_in rows) marks (rules_places held.room) held.room.marks_places s h.counts.marked (omega arith) in
          let low = mark_low h (rules_in rows) marks (rules_places held.room) held.room.marks_places s next (omega arith) in
          let same : get_or marks (suc h.counts.marked) 0 ≡ get_or marks next 0 = ap (λ (i : ℕ). get_or marks i 0) (sym (add-one h.counts.marked)) in
          (omega (arith, noted, counted, rise, same), omega (arith, noted, low))

  module _ (n : ℕ) (counted : n ≡ brings h marks) where
    pub brings_low : n ≤ h.counts.given
    brings_low = omega (arith, counted, between.1)

    abbrev back_again : List Rule
    back_again = drop h.counts.count (take n (rules_in rows))

    more : take n (rules_in rows) ≡ take h.counts.count (rules_in rows) ++ back_again
    more =
        sym (take-append-drop h.counts.count (take n (rules_in rows)))
        ∙ ap (λ (l : List Rule). l ++ back_again) (take-take h.counts.count n (rules_in rows) (omega (arith, counted, between.0)))

    pub sought_forward : Sought h.opening.width n rows h.kept
    sought_forward =
        moved_sought held e n brings_low h.kept
        (bounds_so held e n (rules_in rows) back_again (bands_in rows) (fixed_bits (take n (rules_in rows))) more (moved_lawful held e n brings_low) (moved_drawn held e n brings_low))
