-- The lemmas that the goals of `digit` want, whatever its tests are named. Assumes nothing.
use borrow.Author.Tests.{le-leb, lt-leb}
use Rattle.digits.proofs.numeral.Fit.{fits, over}

pub ruleset wanted = (le-leb, lt-leb, fits, over)
