-- The lemmas that the goals of `all_pass` want, whatever its tests are named. Assumes nothing.
use borrow.Author.Tests.{not-false, not-true}
use Rattle.picture.proofs.shade.Words.{all_held, first_fails, later_fails}

pub ruleset wanted = (not-false, not-true, all_held, first_fails, later_fails)
