-- The lemmas that the goals of `bare` want, whatever its tests are named. Assumes nothing.
use borrow.Author.Tests.{ne_eqb}

pub ruleset wanted = (ne_eqb)
