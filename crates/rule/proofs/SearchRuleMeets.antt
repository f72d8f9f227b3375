-- The lemmas that the goals of `meets` want, whatever its tests are named. Assumes nothing.
use Rattle.rule.proofs.Rows.{as_written, negated}

pub ruleset wanted = (as_written, negated)
