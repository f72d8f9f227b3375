-- What an operation is that works on each bit by itself, which the library has shown of AND, OR and XOR.
use Rattle.std.specs.Prelude.{◌≡◌, ℕ, ◌+◌, ◌*◌, ◌^◌, ◌<◌}
use lib.Bits.{and_block, and_lt, bit_and, bit_or, bit_xor, or_block, or_lt, xor_block, xor_lt}

-- the operation works on the k low bits and on those above apart
pub record IsBitwise (f : ℕ → ℕ → ℕ) : Type 0 where
  pub block : (k a b r s : ℕ) → r < 2 ^ k → s < 2 ^ k → f (a * 2 ^ k + r) (b * 2 ^ k + s) ≡ f a b * 2 ^ k + f r s
  pub bound : (k a b : ℕ) → a < 2 ^ k → b < 2 ^ k → f a b < 2 ^ k

pub and_bitwise : IsBitwise bit_and
and_bitwise = record { block = and_block; bound = and_lt }

pub or_bitwise : IsBitwise bit_or
or_bitwise = record { block = or_block; bound = or_lt }

pub xor_bitwise : IsBitwise bit_xor
xor_bitwise = record { block = xor_block; bound = xor_lt }
