-- A gate as numbers, and what it is turned into (02, K9).
use Rattle.std.specs.Prelude.{cond, List, [], ◌∷◌, ℕ, eqb, Result, Ok, Err}
use Rattle.std.specs.Float.{binary32}
use Rattle.std.specs.Float.Ieee.{of_bits}
use Rattle.rule.specs.declared.Rule.{Rule}
use Rattle.gate.specs.declared.Four.{Four}
use Rattle.gate.specs.declared.Gate.{Gate}
use Rattle.gate.specs.declared.Gate.TheVariants.{AtLeast, AtMost, Within}
use Rattle.gate.specs.declared.Refusal.{Refusal}
use Rattle.gate.specs.declared.Refusal.TheVariants.{NotANumber}

-- the gate of a kind, with the bits of its limits: 0 is at least the low one, 1 at most the high one, any other number within both
abbrev pub gate_of : (kind low high : ℕ) → Gate
gate_of kind low high =
    cond (eqb kind 0) (AtLeast (of_bits binary32 low))
    (cond (eqb kind 1) (AtMost (of_bits binary32 high)) (Within (record { low = of_bits binary32 low; high = of_bits binary32 high })))

-- the four numbers of a rule
abbrev pub row_of : Rule → List ℕ
row_of r = r.form ∷ r.sense ∷ r.c1 ∷ r.c2 ∷ []

abbrev pub rows_of : Four → List (List ℕ)
rows_of f = row_of f.first ∷ row_of f.second ∷ row_of f.third ∷ row_of f.fourth ∷ []

-- 0, or 14 "where a limit is not a number"
unfoldable pub gate_number : Result Four Refusal → ℕ
gate_number (Ok f) = 0
gate_number (Err NotANumber) = 14

-- the rows that are left: those of the four rules, or where there are none those that were there
unfoldable pub gate_rows : Result Four Refusal → List (List ℕ) → List (List ℕ)
gate_rows (Ok f) before = rows_of f
gate_rows (Err NotANumber) before = before
