-- Words of w bits: the numbers from 0 to the top word, with sums and differences modulo 2^w.
use Rattle.std.specs.Prelude.{ℕ, ◌+◌, ◌-◌, ◌%◌, ◌^◌, ◌≤◌, cond, ℤ, pos, ◌-ℤ◌, nat_lt}

-- A width that a 64-bit machine word can hold: 2 ^ 64 itself is no word.
pub record IsWidth (w : ℕ) : Type 0 where
  pub low : 1 ≤ w
  pub high : w ≤ 64

-- "Words run from 0 to the top word 2^w - 1."
unfoldable pub top : ℕ → ℕ
top w = 2 ^ w - 1

-- "Half is 2^(w-1)."
unfoldable pub half : ℕ → ℕ
half w = 2 ^ (w - 1)

-- "All sums are modulo 2^w."
unfoldable pub plus : ℕ → ℕ → ℕ → ℕ
plus w a b = (a + b) % 2 ^ w

-- A difference, modulo 2^w too.
unfoldable pub minus : ℕ → ℕ → ℕ → ℕ
minus w a b = (a + (2 ^ w - b % 2 ^ w)) % 2 ^ w

-- "s(a) is a where a < half, else a - 2^w."
unfoldable pub signed : ℕ → ℕ → ℤ
signed w a = cond (nat_lt a (half w)) (pos a) (pos a -ℤ pos (2 ^ w))
