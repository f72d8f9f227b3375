-- What a bit pattern is worth, and the order of what patterns are worth (02, K9: "Define the value over whole numbers: finite
-- values times 2^149, infinities beyond all").
use Rattle.std.specs.Prelude.{◌≡◌, Bool, true, false, not, ◌||◌, cond, ℕ, zero, suc, ◌+◌, ◌*◌, ◌/◌, ◌%◌, ◌^◌, eqb, leb, ltb, Float, ℤ, pos, neg_ℤ}
use Rattle.std.specs.Float.{nan, inf, fin}
use Rattle.std.specs.Float.Ieee.{down, up}
use Rattle.std.specs.Int.Signed.{le_z}

-- a finite value times 2^149; an infinity, below all where its sign is set and else above all; or what is not a number
pub data Value : Type 0 where
  finite : ℤ → Value
  infinity : Bool → Value
  not_a_number : Value

-- the sign, the exponent and the fraction of a 32-bit pattern: 1, 8 and 23 bits
unfoldable pub sign : ℕ → Bool
sign x = leb (2 ^ 31) x

unfoldable pub exponent : ℕ → ℕ
exponent x = x % 2 ^ 31 / 2 ^ 23

unfoldable pub fraction : ℕ → ℕ
fraction x = x % 2 ^ 23

-- how far a finite value is from zero, times 2^149: the fraction where the exponent is 0; else 2^23 and the fraction, doubled for
-- each exponent past 1
unfoldable pub magnitude : (exponent fraction : ℕ) → ℕ
magnitude zero f = f
magnitude (suc e) f = (2 ^ 23 + f) * 2 ^ e

-- a magnitude with its sign; the two zeros are one number
unfoldable pub signed : Bool → ℕ → ℤ
signed false m = pos m
signed true m = neg_ℤ (pos m)

-- the value of a pattern; the highest exponent is kept for the infinities, and with a fraction for what is not a number
unfoldable pub value : ℕ → Value
value x =
    cond (ltb (exponent x) 255) (finite (signed (sign x) (magnitude (exponent x) (fraction x))))
    (cond (eqb (fraction x) 0) (infinity (sign x)) not_a_number)

-- the order of values, "infinities beyond all"; what is not a number stands in no order
unfoldable pub le_v : Value → Value → Bool
le_v (finite a) (finite b) = le_z a b
le_v (finite a) (infinity t) = not t
le_v (finite a) not_a_number = false
le_v (infinity s) (finite b) = s
le_v (infinity s) (infinity t) = s || not t
le_v (infinity s) not_a_number = false
le_v not_a_number v = false

-- "finite values times 2^149": the value of a float that is m 2^e, with a sign, is the whole number a with that sign for which
-- m 2^e 2^149 = a; "infinities beyond all" are apart, and so is what is not a number
pub data ValueOf : Float → Value → Type 0 where
  times : (s : Bool) (m : ℕ) (e : ℤ) (a : ℕ) → m * up e * 2 ^ 149 ≡ a * down e → ValueOf (fin s m e) (finite (signed s a))
  beyond : (s : Bool) → ValueOf (inf s) (infinity s)
  apart : ValueOf nan not_a_number
