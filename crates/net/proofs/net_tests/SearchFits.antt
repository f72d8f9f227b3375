-- The lemmas that the goals of `fits` want, whatever its tests are named. Assumes nothing.
use borrow.Author.Tests.{le-leb, lt-leb}
use Rattle.net.proofs.net_tests.Every.{named_listed}

pub ruleset wanted = (le-leb, lt-leb, named_listed)
