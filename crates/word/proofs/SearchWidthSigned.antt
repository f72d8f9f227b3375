-- The lemmas that the goals of `signed` want, whatever its tests are named. Assumes nothing.
use Rattle.std.proofs.Common.{◌≡◌, ℕ, ◌-◌, ◌^◌, ◌<◌, ℤ, negsuc, ◌-ℤ◌, sym, ap, ◌∙◌, subst, arith, w64, SFits, to_z}
use mir.ValLaws.{to_z_pos, to_z-of_z}
use Rattle.word.proofs.Signed.{low, high, below_zero}
use Rattle.word.proofs.Widths.{halves, half_fits}

pub down : (d : ℕ) → d < 2 ^ 63 → negsuc 0 -ℤ to_z w64 d ≡ negsuc d
down d h = ap (λ (z : ℤ). negsuc 0 -ℤ z) (to_z_pos w64 d h) ∙ below_zero d

pub fits : (d : ℕ) → d < 2 ^ 63 → SFits w64 (negsuc 0 -ℤ to_z w64 d)
fits d h = subst (SFits w64) (sym (down d h)) (record { sfits = h })

pub ruleset wanted = (to_z_pos, to_z-of_z, low, high, below_zero, halves, half_fits, down, fits)
