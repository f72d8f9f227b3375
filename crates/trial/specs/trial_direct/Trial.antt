-- What a trial asks of a width, and of a row of the paper's cases.
use Rattle.std.specs.Prelude.{ℕ, ◌≤◌}

-- A width that is small enough to try every word.
pub record Narrow (w : ℕ) : Type 0 where
  pub low : 1 ≤ w
  pub high : w ≤ 8

-- how many rows the table of the paper's cases has
abbrev pub ROWS : ℕ
ROWS = 15
