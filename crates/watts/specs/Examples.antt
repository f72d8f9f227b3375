-- Decimal fractions worked by hand, as one table: whether it is below zero, its digits, how many stand after the point, and the limit.
use Rattle.std.specs.Prelude.{◌≡◌, Bool, true, false, List, [], ◌∷◌, ℕ, Option, None, Some}
use Rattle.watts.specs.Watts.{limit_of}

pub record Example : Type 0 where
  pub minus : Bool
  pub digits : ℕ
  pub places : ℕ
  pub limit : Option ℕ

abbrev pub example : (minus : Bool) (digits places : ℕ) → Option ℕ → Example
example m d k l = record { minus = m; digits = d; places = k; limit = l }

abbrev pub examples : List Example
examples =
    -- `watts within 5.5 .. 20`
    example false 55 1 (Some 0x40b00000)
    ∷ example false 20 0 (Some 0x41a00000)
    -- 0.1 is no sum of powers of two; with a minus the sign bit is set
    ∷ example false 1 1 (Some 0x3dcccccd)
    ∷ example true 1 1 (Some 0xbdcccccd)
    -- the two zeros
    ∷ example false 0 0 (Some 0)
    ∷ example true 0 1 (Some 0x80000000)
    -- halfway between 2^24 and the next number, which is odd; a billionth more; halfway between that one and the next, which is even
    ∷ example false 16777217 0 (Some 0x4b800000)
    ∷ example false 16777217000000001 9 (Some 0x4b800001)
    ∷ example false 16777219 0 (Some 0x4b800002)
    -- a half that fills all 24 places, so that the exponent rises: 2^24 - 0.5
    ∷ example false 167772155 1 (Some 0x4b800000)
    -- the least that is above zero, and the largest
    ∷ example false 1 9 (Some 0x3089705f)
    ∷ example false 18446744073709551615 0 (Some 0x5f800000)
    -- ten digits after the point
    ∷ example false 1 10 None
    ∷ []

-- each comes out so
abbrev pub AllRight : List Example → Type 0
AllRight [] = Unit {0}
AllRight (e ∷ es) = (limit_of e.minus e.digits e.places ≡ e.limit) × AllRight es
