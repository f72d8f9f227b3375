-- The lemmas that the goals of `refuses` want, whatever its tests are named. Assumes nothing.
use borrow.Author.Tests.{not-false, not-true}
use borrow.Author.Tests.{eq-eqb}
use borrow.Author.Tests.{ne_eqb}

pub ruleset wanted = (not-false, not-true, eq-eqb, ne_eqb)
