-- A join as numbers (02, K11).
use Rattle.std.specs.Prelude.{cond, List, [], ◌∷◌, ℕ, eqb, get_or}
use Rattle.span.specs.declared.interval.Interval.{Interval}
use Rattle.span.specs.declared.Joined.{Joined}
use Rattle.span.specs.declared.interval.Op.{Op}
use Rattle.span.specs.declared.interval.Op.TheVariants.{And, Not, Or, Xor}
use Rattle.span.specs.interval.Interval.{interval}
use Rattle.span.specs.Join.{joined}

-- 0 is NOT, 1 AND, 2 OR, any other number XOR
abbrev pub op_of : ℕ → Op
op_of n = cond (eqb n 0) Not (cond (eqb n 1) And (cond (eqb n 2) Or Xor))

-- the interval of a row: low, high
abbrev pub interval_in : List ℕ → Interval
interval_in ns = interval (get_or ns 0 0) (get_or ns 1 0)

-- what the join of h, x and y, a row each, answers
unfoldable pub join_in : (width op : ℕ) → List (List ℕ) → Joined
join_in w op rows = joined w (op_of op) (interval_in (get_or rows 0 [])) (interval_in (get_or rows 1 [])) (interval_in (get_or rows 2 []))

-- the three intervals, a row each
abbrev pub join_rows : Joined → List (List ℕ)
join_rows j = (j.h.low ∷ j.h.high ∷ []) ∷ (j.x.low ∷ j.x.high ∷ []) ∷ (j.y.low ∷ j.y.high ∷ []) ∷ []
