-- The lemmas that the goals of `refused` want, whatever its tests are named. Assumes nothing.
use Rattle.span.proofs.Widths.{width_passes}

pub ruleset wanted = (width_passes)
