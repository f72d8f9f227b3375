use Rattle.std.proofs.Common.{◌≡◌, drop}
use Rattle.rule.specs.accept.Accept.{every}
use Rattle.page.specs.route.Shape.{is_zero}
use Rattle.sheet.proofs.marks.all_zero.Given as goal

abbrev pub invariant-loop-mark : goal.invariant-loop-mark
invariant-loop-mark l = every is_zero (drop l.m l.marks) ≡ every is_zero (drop l.mark-index (drop l.m l.marks))
