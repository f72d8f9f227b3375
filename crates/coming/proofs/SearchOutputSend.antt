-- The lemmas that the goals of `send` want, whatever its tests are named. Assumes nothing.
use Rattle.coming.proofs.Coming.{bounded}
use Rattle.coming.proofs.Rest.{rest_length}

pub ruleset wanted = (bounded, rest_length)
