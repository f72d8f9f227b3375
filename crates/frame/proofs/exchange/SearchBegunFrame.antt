-- The lemmas that the goals of `frame` want, whatever its tests are named. Assumes nothing.
use Rattle.frame.proofs.exchange.Held.{first_frame}

pub ruleset wanted = (first_frame)
