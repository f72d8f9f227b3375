-- A refusal has a number. Assumes nothing.
use mathlib.Core.Path.{◌≡◌}
use native.Mathlib.Omega.{arith}
use Rattle.span.specs.declared.refusal.Refusal.TheVariants.{Bound, Order, Width}
use Rattle.span.specs.refusal.Refusal as join
use Rattle.net.specs.declared.refusal.Refusal.{Refusal}
use Rattle.net.specs.declared.refusal.Refusal.TheVariants.{Join, Room}
use Rattle.net.specs.refusal.Refusal.{number_of}

pub some_number : (r : Refusal) → number_of r ≡ 0 → ⊥
unfolding number_of join.number_of
some_number Room e = absurd (omega arith)
some_number (Join Width) e = absurd (omega arith)
some_number (Join Bound) e = absurd (omega arith)
some_number (Join Order) e = absurd (omega arith)
