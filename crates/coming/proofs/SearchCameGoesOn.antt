-- The lemmas that the goals of `goes_on` want, whatever its tests are named. Assumes nothing.
use Rattle.coming.proofs.Coming.{at_most, before_most}

pub ruleset wanted = (at_most, before_most)
