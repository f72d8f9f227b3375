use mathlib.Core.Path.{◌≡◌}
use Prim.Native.Nat.{◌-◌, ◌≤◌}
use lib.ListN.{drop, length}
use lib.Seq.{sets}
use Rattle.line.specs.Line.{LIMIT}
use Rattle.naming.specs.Names.{row_of}
use Rattle.naming.proofs.row_of.Given as goal

abbrev pub invariant-loop-i : goal.invariant-loop-i
invariant-loop-i l = (l.i ≤ length l.name) × (length l.row ≡ LIMIT) × (sets l.row l.i (drop l.i l.name) ≡ row_of l.name)

abbrev pub decreases-loop-i : goal.decreases-loop-i
decreases-loop-i l = length l.name - l.i
