-- The lemmas that the goals of `cut_x` and `cut_y` want. Assumes nothing.
use borrow.Author.Tests.{le-leb, lt-leb}
use Rattle.span.proofs.Joining.{has_y}

pub ruleset wanted = (le-leb, lt-leb, has_y)
