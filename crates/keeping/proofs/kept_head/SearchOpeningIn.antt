-- The lemmas that the goals of `opening_in` want, whatever its tests are named. Assumes nothing.
use borrow.Author.Tests.{le-ltb, lt-ltb}

pub ruleset wanted = (le-ltb, lt-ltb)
