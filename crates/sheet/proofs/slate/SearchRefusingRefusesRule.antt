-- The lemmas that the goals of `refuses_rule` want, whatever its tests are named. Assumes nothing.
use Rattle.rule.proofs.accept.Choices.{failed, passed}
use Rattle.sheet.proofs.slate.Numbers.{number_before, number_full, number_none, number_other, number_own}
use Rattle.std.proofs.lemmas.Bool.{not_from_false, not_from_true}

pub ruleset wanted = (failed, passed, number_before, number_full, number_none, number_other, number_own, not_from_false, not_from_true)
