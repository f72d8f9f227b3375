-- The lemmas that the goals of `shaped` want, whatever its tests are named. Assumes nothing.
use borrow.Author.Tests.{eq-eqb, le-leb, lt-leb, ne_eqb}
use Rattle.word.proofs.Editions.{widest_held}
use Rattle.rule.proofs.accept.Choices.{failed, passed}
use Rattle.std.proofs.lemmas.Bool.{not_from_false, not_from_true}

pub ruleset wanted = (eq-eqb, le-leb, lt-leb, ne_eqb, widest_held, failed, passed, not_from_false, not_from_true)
