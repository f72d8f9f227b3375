-- The lemmas that the goals of `width_of` want, whatever its tests are named. Assumes nothing.
use borrow.Author.Tests.{le-leb, le-ltb, lt-leb, lt-ltb}

pub ruleset wanted = (le-leb, le-ltb, lt-leb, lt-ltb)
