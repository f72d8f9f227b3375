-- The lemmas that the goals of `written` want, whatever its tests are named. Assumes nothing.
use mir.ValLaws.{to_z-of_z}
use Rattle.rule.proofs.Forms.{end, row}
use Rattle.rule.proofs.Rows.{at_row, no_row}

pub ruleset wanted = (to_z-of_z, end, row, at_row, no_row)
