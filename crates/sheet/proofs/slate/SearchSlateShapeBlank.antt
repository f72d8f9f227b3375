-- The lemmas that the goals of `blank` want, whatever its tests are named. Assumes nothing.
use borrow.Author.Tests.{ne_eqb}
use Rattle.rule.proofs.accept.Choices.{failed, passed}
use Rattle.sheet.proofs.slate.Told.{blank_count, blank_kept, blank_marks, blank_rules}
use Rattle.std.proofs.lemmas.Bool.{not_from_false, not_from_true}

pub ruleset wanted = (ne_eqb, failed, passed, blank_count, blank_kept, blank_marks, blank_rules, not_from_false, not_from_true)
