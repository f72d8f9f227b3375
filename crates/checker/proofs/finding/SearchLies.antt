-- The lemmas that the goals of `lies` want, whatever its tests are named. Assumes nothing.
use borrow.Author.Tests.{eq-eqb, le-leb, lt-leb, ne_eqb}

pub ruleset wanted = (eq-eqb, ne_eqb, le-leb, lt-leb)
