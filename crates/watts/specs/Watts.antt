-- The single-precision number nearest to a decimal fraction, ties to even, by search over all patterns. Over whole numbers: what a pattern
-- is worth is its value times 2^149, so digits / 10^places is compared with it as digits 2^149 with worth 10^places.
use Rattle.std.specs.Prelude.{Bool, true, false, cond, ℕ, ◌+◌, ◌-◌, ◌*◌, ◌%◌, ◌^◌, leb, ltb, Option, None, Some}
use Rattle.std.specs.Prelude.{Some, None}
use Rattle.word.specs.Search.{last}
use Rattle.gate.specs.Value.{exponent, fraction, magnitude}
use Rattle.digits.specs.numeral.Numeral.{PLACES}

-- the first pattern without a sign that is no number's with a value
abbrev pub INFINITY : ℕ
INFINITY = 0x7f800000

-- how far the value of a pattern is from zero, times 2^149
unfoldable pub worth : ℕ → ℕ
worth x = magnitude (exponent x) (fraction x)

-- whole digits, times 2^149 too
unfoldable pub scaled : ℕ → ℕ
scaled digits = digits * 2 ^ 149

-- the last pattern whose value is at most digits / 10^places; that of zero is
unfoldable pub below : (digits places : ℕ) → ℕ
below digits places = elim (last (λ p. leb (worth p * 10 ^ places) (scaled digits)) INFINITY) [ Some p ↦ p | None ↦ 0 ]

-- of a pattern and the next the nearer, where one is so far under and the other so far over; "ties to even"
unfoldable pub nearer : (under over p : ℕ) → ℕ
nearer under over p = cond (ltb under over) p (cond (ltb over under) (p + 1) (p + p % 2))

-- the nearest pattern, without a sign
unfoldable pub pattern : (digits places : ℕ) → ℕ
pattern digits places =
    let p = below digits places in
    nearer (scaled digits - worth p * 10 ^ places) (worth (p + 1) * 10 ^ places - scaled digits) p

-- with its sign; zero may have one too
unfoldable pub with_sign : Bool → ℕ → ℕ
with_sign true p = 2 ^ 31 + p
with_sign false p = p

-- the bits of a limit that is read; none where it has more digits after the point
unfoldable pub limit_of : (minus : Bool) (digits places : ℕ) → Option ℕ
limit_of minus digits places = cond (leb places PLACES) (Some (with_sign minus (pattern digits places))) None
