-- The lemmas that the goals of `refusal` want, whatever its tests are named. Assumes nothing.
use Rattle.span.proofs.Widths.{width_passes}
use Rattle.net.proofs.Accepted.{count_fits}

pub ruleset wanted = (width_passes, count_fits)
