-- How many numbers rules are, one after another. Assumes nothing.
use mathlib.Core.Path.{◌≡◌, refl}
use mathlib.Core.List.{List, [], ◌∷◌}
use Prim.Native.Nat.{◌*◌}
use native.Mathlib.Omega.{arith}
use lib.ListN.{length}
use Rattle.rule.specs.declared.Rule.{Rule}
use Rattle.keeping.specs.kept_numbers.Numbers.{flat}

pub flat-length : (rs : List Rule) → length (flat rs) ≡ 4 * length rs
unfolding flat
flat-length [] = refl
flat-length (r ∷ rs) = omega (arith, flat-length rs)
