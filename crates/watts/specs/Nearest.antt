-- "read to the nearest single-precision number, ties to even, stated over whole numbers": of all patterns, and without a search.
use Rattle.std.specs.Prelude.{◌≡◌, Bool, true, false, ℕ, ◌+◌, ◌-◌, ◌*◌, ◌%◌, ◌^◌, ◌≤◌, ◌<◌}
use Rattle.word.specs.Word.{top}
use Rattle.gate.specs.Value.{exponent, sign}
use Rattle.watts.specs.Watts.{scaled, worth}

-- how far apart two numbers are, each a sign and how far it is from zero
unfoldable pub apart : Bool → ℕ → Bool → ℕ → ℕ
apart false a false b = a - b + (b - a)
apart false a true b = a + b
apart true a false b = a + b
apart true a true b = a - b + (b - a)

-- how far the value of a pattern is from the fraction, times 2^149 10^places
unfoldable pub off : (minus : Bool) (digits places x : ℕ) → ℕ
off minus digits places x = apart minus (scaled digits) (sign x) (worth x * 10 ^ places)

-- a pattern of 32 bits that has a finite value
pub record Finite (x : ℕ) : Type 0 where
  pub word : x ≤ top 32
  pub number : exponent x < 255

-- Of all patterns with a finite value, of either sign, none is nearer to the fraction than x; and where another of its sign is as near, x
-- is even.
pub record Nearest (minus : Bool) (digits places x : ℕ) : Type 0 where
  pub finite : Finite x
  pub signed : sign x ≡ minus
  pub nearest : (y : ℕ) → Finite y → off minus digits places x ≤ off minus digits places y
  pub even : (y : ℕ) → Finite y → sign y ≡ minus → (y ≡ x → ⊥) → off minus digits places y ≡ off minus digits places x → x % 2 ≡ 0
