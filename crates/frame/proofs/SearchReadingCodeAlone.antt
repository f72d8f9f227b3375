-- The lemmas that the goals of `code_alone` want, whatever its tests are named. Assumes nothing.
use Rattle.frame.proofs.Alone.{code_row, no_row_alone}

pub ruleset wanted = (code_row, no_row_alone)
