-- A step back on a slate: the newest mark says how many rules stay, and what is kept of them lies on the whole wheel. Assumes nothing.
use mathlib.Core.Path.{◌≡◌, sym, ◌∙◌, subst₂}
use mathlib.Core.List.{List, []}
use Prim.Native.Nat.{ℕ, ◌+◌, ◌-◌, ◌≤◌, ◌<◌}
use native.Mathlib.Omega.{arith}
use lib.ListN.{take}
use Rattle.word.specs.Word.{top}
use Rattle.rule.specs.declared.band.Band.{Band}
use Rattle.rule.specs.bits.route.Fixed.{fixed_bits}
use Rattle.page.specs.Page.{MARKS}
use Rattle.search.specs.rows.route.Rows.{rules_in}
use Rattle.search.specs.declared.verdict.Kept.{Kept}
use Rattle.search.specs.verdict.Kept.{keeps}
use Rattle.search.specs.verdict.route.OnBands.{Bounds}
use Rattle.search.proofs.verdict.NoRules.{kept_none}
use Rattle.search.proofs.verdict.Rules.{kept_bounds}
use Rattle.sheet.specs.declared.slate.Head.{Head}
use Rattle.sheet.specs.slate.route.Held.{Held}
use Rattle.sheet.specs.slate.route.Numbers.{before}
use Rattle.sheet.proofs.slate.Holding.{rules_places, shape_so, width_so}
use Rattle.sheet.proofs.slate.Shaped.{mark_low}
use Rattle.sheet.specs.slate.stepping.route.Steps.{leaves}
use Rattle.sheet.specs.slate.stepping.route.Found.{Sought}
use Rattle.sheet.proofs.slate.stepping.Moved.{moved_drawn, moved_lawful, moved_sought}

module _ {h : Head} {rows : List (List ℕ)} {marks : List ℕ} (held : Held h rows marks) (e : before h.stands h.opening.width ≡ 0)
    (z : h.counts.marked ≡ 0 → ⊥) where
  pub mark_there : h.counts.marked - 1 < MARKS
  mark_there = omega (arith, z, (shape_so held e).marks_high)

  pub one_more : h.counts.waiting + 1 ≤ MARKS
  one_more = omega (arith, z, (shape_so held e).marks_high)

  pub leaves_low : leaves h marks ≤ h.counts.given
  leaves_low = mark_low h (rules_in rows) marks (rules_places held.room) held.room.marks_places (shape_so held e) (h.counts.marked - 1) (omega (arith, z))

  -- what is kept of no rules bounds what is kept of any
  pub sought_back : (k : Kept) → k ≡ keeps 2 0 (top h.opening.width) → Sought h.opening.width (leaves h marks) rows k
  sought_back k whole =
      let w = h.opening.width in
      let rs = take (leaves h marks) (rules_in rows) in
      let bounds = kept_bounds w (width_so held e).low [] rs (moved_lawful held e (leaves h marks) leaves_low) in
      moved_sought held e (leaves h marks) leaves_low k
      (subst₂ (λ (bs : List Band) (j : Kept). Bounds w bs (fixed_bits rs) j) (sym (moved_drawn held e (leaves h marks) leaves_low).own) (sym (whole ∙ kept_none w (width_so held e).low)) bounds)
