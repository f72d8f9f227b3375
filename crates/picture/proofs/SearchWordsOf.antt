-- The lemmas that the goals of `words_of` want, whatever its tests are named. Assumes nothing.
use borrow.Author.Tests.{eq-eqb, le-ltb, lt-ltb, ne_eqb}

pub ruleset wanted = (eq-eqb, le-ltb, lt-ltb, ne_eqb)
