-- The lemmas that the goals of `better` want, whatever its tests are named. Assumes nothing.
use borrow.Author.Tests.{le-ltb, lt-ltb}

pub ruleset wanted = (le-ltb, lt-ltb)
