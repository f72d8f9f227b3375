-- The lemmas that the goals of `holds` want, whatever its tests are named. Assumes nothing.
use Rattle.rule.proofs.band.Runs.{inside-holds, outside_holds}

pub ruleset wanted = (inside-holds, outside_holds)
