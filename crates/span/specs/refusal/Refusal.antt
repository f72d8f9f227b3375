-- The number of each refusal of a join.
use Rattle.std.specs.Prelude.{ℕ, Result, Ok, Err}
use Rattle.span.specs.declared.refusal.Refusal.{Refusal}
use Rattle.span.specs.declared.refusal.Refusal.TheVariants.{Width, Bound, Order}

-- "A width outside 1 to 64 is refused with 2, then bounds above the top word with 5, then an interval with low above high
-- with 15."
unfoldable pub number_of : Refusal → ℕ
number_of Width = 2
number_of Bound = 5
number_of Order = 15

-- the number that is told: 0 where nothing is refused
unfoldable pub told : {A : Type 0} → Result A Refusal → ℕ
told (Ok a) = 0
told (Err r) = number_of r
