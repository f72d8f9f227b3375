-- When a reading meets a gate, and the four rules that a gate is turned into (02, K9).
use Rattle.std.specs.Prelude.{Bool, ◌&&◌, ◌||◌, cond, List, [], ◌∷◌, ℕ, suc, ◌+◌, ◌-◌, ltb, Float, Result, Ok, Err}
use Rattle.std.specs.Float.{binary32}
use Rattle.std.specs.Float.Ieee.{is_nan, to_bits}
use Rattle.std.specs.Prelude.{Some, None}
use Rattle.word.specs.Search.{first, last}
use Rattle.word.specs.Word.{half, minus, top}
use Rattle.rule.specs.declared.Rule.{Rule}
use Rattle.rule.specs.Meaning.{rule}
use Rattle.gate.specs.declared.Four.{Four}
use Rattle.gate.specs.declared.Gate.{Gate}
use Rattle.gate.specs.declared.Gate.TheVariants.{AtLeast, AtMost, Within}
use Rattle.gate.specs.declared.Refusal.{Refusal}
use Rattle.gate.specs.declared.Refusal.TheVariants.{NotANumber}
use Rattle.gate.specs.Value.{Value, le_v, value}

-- the value of a limit: that of its bits
unfoldable pub worth : Float → Value
worth l = value (to_bits binary32 l)

-- "at least a limit, at most a limit, or within a span, ends included"
unfoldable pub meets_gate : Gate → Value → Bool
meets_gate (AtLeast l) v = le_v (worth l) v
meets_gate (AtMost h) v = le_v v (worth h)
meets_gate (Within s) v = le_v (worth s.low) v && le_v v (worth s.high)

-- the bit pattern x fits: its value meets the gate
unfoldable pub through : Gate → ℕ → Bool
through g x = meets_gate g (value x)

-- "where a limit is not a number"
unfoldable pub not_numbers : Gate → Bool
not_numbers (AtLeast l) = is_nan l
not_numbers (AtMost h) = is_nan h
not_numbers (Within s) = is_nan s.low || is_nan s.high

-- the rule that fails just the words from a on and before b: "All are form 3, sense 0; one that fails no word is form 3, 0, top"
unfoldable pub failing : ℕ → ℕ → Rule
failing a b = cond (ltb a b) (rule 3 0 (minus 32 0 b) (top 32 - (b - a))) (rule 3 0 0 (top 32))

-- how many words of a half are "under the smallest fitting one there"; all of them where none fits
unfoldable pub under : (ℕ → Bool) → ℕ
under t = elim (first t (half 32) 0) [ Some y ↦ y | None ↦ half 32 ]

-- where in a half those "over the largest fitting one there" start; past its end where none fits
unfoldable pub over : (ℕ → Bool) → ℕ
over t = elim (last t (half 32)) [ Some y ↦ suc y | None ↦ half 32 ]

-- the four rules, by how far under and from where over the fitting words those of each half lie
abbrev pub four : (under over under' over' : ℕ) → Four
four u o u' o' = record {
  first = failing 0 u;
  second = failing o (half 32);
  third = failing (half 32) (half 32 + u');
  fourth = failing (half 32 + o') (half 32 + half 32);
}

-- "The first fails just the words of the lower half (below 2^31) under the smallest fitting one there, the second just those over
-- the largest fitting one there; the third and fourth do the same in the upper half."
unfoldable pub four_of : (ℕ → Bool) → Four
four_of fit =
    let upper : ℕ → Bool = λ y. fit (half 32 + y) in
    four (under fit) (over fit) (under upper) (over upper)

-- "Turn each gate into exactly four rules over the 32 bits of the reading"; and 14 where a limit is not a number
unfoldable pub turned : Gate → Result Four Refusal
turned g = cond (not_numbers g) (Err NotANumber) (Ok (four_of (through g)))

-- the four in their order, as a sheet has them
unfoldable pub listed : Four → List Rule
listed f = f.first ∷ f.second ∷ f.third ∷ f.fourth ∷ []

-- the rules of a gate whose limits are numbers
unfoldable pub gate_rules : Gate → List Rule
gate_rules g = listed (four_of (through g))
