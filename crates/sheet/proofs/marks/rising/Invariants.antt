use Rattle.std.proofs.Common.{◌≡◌, drop, take}
use Rattle.page.specs.route.Shape.{rising}
use Rattle.sheet.proofs.marks.rising.Given as goal

abbrev pub invariant-loop-mark : goal.invariant-loop-mark
invariant-loop-mark l = rising 0 (take l.m l.marks) l.n ≡ rising l.low (drop l.mark-index (take l.m l.marks)) l.n
