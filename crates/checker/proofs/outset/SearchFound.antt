-- The lemmas that the goals of `found` want, whatever its tests are named. Assumes nothing.
use borrow.Author.Tests.{eq-eqb, ne_eqb}

pub ruleset wanted = (eq-eqb, ne_eqb)
