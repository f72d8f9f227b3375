-- The lemmas that the goals of `accepts` want, whatever its tests are named: an empty list shows nothing, and links are numbers. Assumes nothing.
use borrow.Author.Tests.{eqb-true}
use Rattle.chain.proofs.Walk.{numbers_length}
use Rattle.checker.proofs.Held.{empty_no}

pub ruleset wanted = (empty_no, eqb-true, numbers_length)
