-- What is heard of a read.
use Rattle.std.specs.Prelude.{List, ℕ, ℤ}
use Rattle.coming.specs.declared.hearing.Hearing.{Hearing}
use Rattle.coming.specs.Calls.{Heard}

-- a read, whatever it answered and left in the buffer
pub record Listened (input : List ℕ) (r : Hearing) : Type 0 where
  pub got : ℤ
  pub error : ℤ
  pub heard : Heard got error input r
