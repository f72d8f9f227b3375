-- Which constants a form uses. Assumes nothing.
use mathlib.Core.Path.{◌≡◌, refl}
use Prim.Native.Nat.{ℕ}
use Rattle.rule.specs.Meaning.{meets, rows, rule, written}

-- "Forms 4, 5 and 6 use c1 only."
pub c1_alone : (w sense c1 c2 x : ℕ) → (meets w (rule 4 sense c1 c2) x ≡ meets w (rule 4 sense c1 0) x)
    × (meets w (rule 5 sense c1 c2) x ≡ meets w (rule 5 sense c1 0) x)
    × (meets w (rule 6 sense c1 c2) x ≡ meets w (rule 6 sense c1 0) x)
unfolding meets written rows
c1_alone w sense c1 c2 x = (refl, refl, refl)
