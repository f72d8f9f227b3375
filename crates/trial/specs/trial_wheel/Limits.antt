-- How many of what a walk from turn to turn goes through, as the code has it.
use Rattle.std.specs.Prelude.{ℕ}

-- the most rules of a sheet that is looked at whole
abbrev pub FEW : ℕ
FEW = 6

-- the words that are listed for a rule
abbrev pub TURNS : ℕ
TURNS = 16
