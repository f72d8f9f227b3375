-- The lemmas that the goals of `all_zero` want, whatever its tests are named. Assumes nothing.
use borrow.Author.Tests.{eq-eqb, ne_eqb}
use Rattle.rule.proofs.accept.Every.{ends, every_opens, goes, stops}

pub ruleset wanted = (eq-eqb, ne_eqb, ends, every_opens, goes, stops)
