-- The number of each refusal of a net.
use Rattle.std.specs.Prelude.{ℕ, Option, None, Some}
use Rattle.span.specs.refusal.Refusal as join
use Rattle.net.specs.declared.refusal.Refusal.{Refusal}
use Rattle.net.specs.declared.refusal.Refusal.TheVariants.{Room, Join}

-- "16, before anything else; then 2, 5 and 15 as in K11"
unfoldable pub number_of : Refusal → ℕ
number_of Room = 16
number_of (Join r) = join.number_of r

-- the number that is told: 0 where nothing is refused
unfoldable pub told : Option Refusal → ℕ
told None = 0
told (Some r) = number_of r
