use mathlib.Core.Path.{◌≡◌}
use Prim.Native.Nat.{◌-◌}
use lib.ListN.{drop, length}
use Rattle.line.specs.line_end.End.{end_of}
use Rattle.line.specs.line_end.route.Course.{end_from}
use Rattle.line.proofs.line_end.end_of.Given as goal

abbrev pub invariant-loop-i : goal.invariant-loop-i
invariant-loop-i l = end_of l.line ≡ end_from l.end l.i (drop l.i l.line)

abbrev pub decreases-loop-i : goal.decreases-loop-i
decreases-loop-i l = length l.line - l.i
