-- Rules and marks that a step back strikes free their places: after it a mark is accepted, and where it struck a rule, so is
-- any rule of its edition in the table's bounds, on a full sheet too. Assumes nothing.
use mathlib.Core.Path.{◌≡◌}
use Prim.Native.Nat.{◌<◌}
use native.Mathlib.Omega.{arith}
use lib.ListN.{length}
use Rattle.word.proofs.Editions.{same_self}
use Rattle.rule.specs.declared.Rule.{Rule}
use Rattle.rule.specs.accept.Accept.{refusal_of}
use Rattle.page.specs.Calls.{add, back, changed, mark, refusal, written}
use Rattle.page.specs.Page.{OpenPage, laid_aside, marks_on, page, rules_on, struck}
use Rattle.page.specs.Reached.{Reached}
use Rattle.page.proofs.Lawful.{reached_lawful}
use Rattle.page.proofs.Refusals.{add_fits, mark_fits}
use Rattle.page.proofs.Struck.{marks_left_length}

module _ (o : OpenPage) (reached : Reached (page o)) (some : 0 < length (marks_on o.entries)) where
  pub mark_freed : refusal (written (page o) back) mark ≡ 0
  unfolding written changed laid_aside
  mark_freed =
      let l = reached_lawful reached in
      mark_fits (laid_aside o) (omega (arith, marks_left_length o.entries some, l.marks_fit))

  pub rule_freed : length (rules_on (struck o.entries)) < length (rules_on o.entries) → (r : Rule) → refusal_of o.opening.width r ≡ 0 → refusal (written (page o) back) (add o.opening.edition r) ≡ 0
  unfolding written changed laid_aside
  rule_freed fewer r allowed =
      let l = reached_lawful reached in
      add_fits (laid_aside o) o.opening.edition r (same_self o.opening.edition) allowed (omega (arith, l.rules_fit))
