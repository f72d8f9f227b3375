-- Gates worked by hand, as one table: a kind, the limits' bits, and what the gate is turned into.
use Rattle.std.specs.Prelude.{◌≡◌, List, [], ◌∷◌, ℕ, Float, Result, Ok, Err}
use Rattle.std.specs.Float.{binary32}
use Rattle.std.specs.Float.Ieee.{of_bits}
use Rattle.rule.specs.Meaning.{rule}
use Rattle.gate.specs.declared.Gate.{Gate}
use Rattle.gate.specs.declared.Gate.TheVariants.{AtLeast, AtMost, Within}
use Rattle.gate.specs.declared.Four.{Four}
use Rattle.gate.specs.declared.Refusal.{Refusal}
use Rattle.gate.specs.declared.Refusal.TheVariants.{NotANumber}
use Rattle.gate.specs.Gate.{turned}

-- a gate, and what it is turned into
pub record Example : Type 0 where
  pub gate : Gate
  pub answer : Result Four Refusal

-- the float of a pattern
abbrev pub watts : ℕ → Float
watts p = of_bits binary32 p

abbrev pub within : ℕ → ℕ → Gate
within low high = Within (record { low = watts low; high = watts high })

-- the constants of the four, each of form 3, sense 0
abbrev pub rules : (a b c d e f g h : ℕ) → Result Four Refusal
rules a b c d e f g h = Ok (record { first = rule 3 0 a b; second = rule 3 0 c d; third = rule 3 0 e f; fourth = rule 3 0 g h })

abbrev pub example : Gate → Result Four Refusal → Example
example g t = record { gate = g; answer = t }

abbrev pub examples : List Example
examples =
    -- at least 1: of the lower half 3f800000 to 7f800000 fit, of the upper half nothing
    example (AtLeast (watts 0x3f800000)) (rules 0xc0800000 0xc07fffff 0x80000000 0xff800000 0 0x7fffffff 0 0xffffffff)
    -- at most 1: 0 to 3f800000 fit, and of the upper half all that are numbers
    ∷ example (AtMost (watts 0x3f800000)) (rules 0 0xffffffff 0x80000000 0xbf800000 0 0xffffffff 0 0xff800000)
    -- "the two zeros are equal": at least either is at least both
    ∷ example (AtLeast (watts 0)) (rules 0 0xffffffff 0x80000000 0xff800000 0 0xffffffff 0 0x80000000)
    ∷ example (AtLeast (watts 0x80000000)) (rules 0 0xffffffff 0x80000000 0xff800000 0 0xffffffff 0 0x80000000)
    -- at most zero, and within the two zeros
    ∷ example (AtMost (watts 0x80000000)) (rules 0 0xffffffff 0x80000000 0x80000000 0 0xffffffff 0 0xff800000)
    ∷ example (within 0 0x80000000) (rules 0 0xffffffff 0x80000000 0x80000000 0 0xffffffff 0 0x80000000)
    -- the least subnormal number alone, and with its negative; the greatest and the least normal number
    ∷ example (within 1 1) (rules 0xffffffff 0xfffffffe 0x80000000 0x80000001 0 0x7fffffff 0 0xffffffff)
    ∷ example (within 0x80000001 1) (rules 0 0xffffffff 0x80000000 0x80000001 0 0xffffffff 0 0x80000001)
    ∷ example (within 0x007fffff 0x00800000) (rules 0xff800001 0xff800000 0x80000000 0x80800000 0 0x7fffffff 0 0xffffffff)
    -- the infinities are readings: each alone, and all numbers
    ∷ example (AtLeast (watts 0x7f800000)) (rules 0x80800000 0x807fffff 0x80000000 0xff800000 0 0x7fffffff 0 0xffffffff)
    ∷ example (AtMost (watts 0xff800000)) (rules 0x80000000 0x7fffffff 0 0xffffffff 0x00800000 0x807fffff 0 0xff800000)
    ∷ example (AtLeast (watts 0xff800000)) (rules 0 0xffffffff 0x80000000 0xff800000 0 0xffffffff 0 0xff800000)
    -- "A span with low above high is accepted and fits nothing"
    ∷ example (within 0x40000000 0x3f800000) (rules 0x80000000 0x7fffffff 0 0xffffffff 0 0x7fffffff 0 0xffffffff)
    -- a limit is not a number: quiet, signalling, with the sign, and in a span either
    ∷ example (AtLeast (watts 0x7fc00000)) (Err NotANumber)
    ∷ example (AtMost (watts 0xff800001)) (Err NotANumber)
    ∷ example (within 0x3f800000 0x7f800001) (Err NotANumber)
    ∷ example (within 0xffffffff 0x3f800000) (Err NotANumber)
    ∷ []

-- each comes out so
abbrev pub AllRight : List Example → Type 0
AllRight [] = Unit {0}
AllRight (e ∷ es) = (turned e.gate ≡ e.answer) × AllRight es
