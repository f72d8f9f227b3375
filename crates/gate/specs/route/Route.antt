-- A route: the four rules without a search. One case serves all gates, since at least a limit is within it and the infinity above
-- all, and at most a limit within the infinity below all and it.
use Rattle.std.specs.Prelude.{cond, ℕ, ◌+◌, ◌%◌, ◌^◌, ◌≤◌, eqb, ltb, Float, Result, Ok, Err}
use Rattle.std.specs.Float.{binary32}
use Rattle.std.specs.Float.Ieee.{is_nan, to_bits}
use Rattle.word.specs.Word.{half, plus, top}
use Rattle.gate.specs.declared.Four.{Four}
use Rattle.gate.specs.declared.Gate.{Gate}
use Rattle.gate.specs.declared.Gate.TheVariants.{AtLeast, AtMost, Within}
use Rattle.gate.specs.declared.Refusal.{Refusal}
use Rattle.gate.specs.declared.Refusal.TheVariants.{NotANumber}
use Rattle.gate.specs.declared.Run.{Run}
use Rattle.gate.specs.Gate.{four, not_numbers}

-- a pattern that is a number's: without the sign bit, not above that of an infinity
pub record IsLimit (p : ℕ) : Type 0 where
  pub word : p ≤ top 32
  pub number : p % 2 ^ 31 ≤ 0x7f800000

-- the bits of a limit that is a number
unfoldable pub bits_of : Float → Result ℕ Refusal
bits_of l = cond (is_nan l) (Err NotANumber) (Ok (to_bits binary32 l))

-- the bits of a gate's two limits
abbrev pub low_of : Gate → ℕ
low_of (AtLeast l) = to_bits binary32 l
low_of (AtMost h) = 0xff800000
low_of (Within s) = to_bits binary32 s.low

abbrev pub high_of : Gate → ℕ
high_of (AtLeast l) = 0x7f800000
high_of (AtMost h) = to_bits binary32 h
high_of (Within s) = to_bits binary32 s.high

-- both, where they are numbers
unfoldable pub limits_of : Gate → Result (ℕ × ℕ) Refusal
limits_of g = cond (not_numbers g) (Err NotANumber) (Ok (low_of g, high_of g))

-- the first word of the lower half that is at least the limit
unfoldable pub from_of : ℕ → ℕ
from_of low = cond (ltb low (half 32)) low 0

-- past the last word of the lower half that is at most the limit
unfoldable pub past_of : ℕ → ℕ
past_of high = cond (ltb high (half 32)) (high + 1) (cond (eqb high (half 32)) 1 0)

-- the words between, or where there are none the whole half twice
unfoldable pub run_of : ℕ → ℕ → Run
run_of low high =
    let some = ltb (from_of low) (past_of high) in
    record { under = cond some (from_of low) (half 32); over = cond some (past_of high) (half 32) }

-- the rules from the runs of the two halves; in the upper half the signs are turned, and with them the order
unfoldable pub between_rules : ℕ → ℕ → Four
between_rules low high =
    let lower = run_of low high in
    let upper = run_of (plus 32 high (half 32)) (plus 32 low (half 32)) in
    four lower.under lower.over upper.under upper.over
