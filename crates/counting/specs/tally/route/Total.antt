-- How many words, "given as two numbers, quotient and remainder by 2^32". A route: what a count answers is said elsewhere.
use Rattle.std.specs.Prelude.{ℕ, ◌+◌, ◌*◌, ◌/◌, ◌%◌, ◌≤◌, ◌<◌}
use Rattle.counting.specs.declared.tally.Total.{Total}

-- 2^32
abbrev pub UNIT : ℕ
UNIT = 4294967296

-- h words
abbrev pub totals : (h : ℕ) → Total
totals h = record { quotient = h / UNIT; remainder = h % UNIT }

-- the words of a total
abbrev pub whole : Total → ℕ
whole t = t.quotient * UNIT + t.remainder

-- what adding asks of the two numbers: nothing is left to carry, and there are no more words than 2^64
pub record Carries (t : Total) : Type 0 where
  pub carried : t.remainder < UNIT
  pub bounded : t.quotient ≤ UNIT
