use mathlib.Core.Path.{◌≡◌}
use Prim.Native.Nat.{◌-◌, ◌≤◌}
use lib.ListN.{drop, length}
use Rattle.line.specs.scan.Scan.{started}
use Rattle.line.specs.scanning.Scanning.{steps}
use Rattle.line.proofs.scanning.whole.Given as goal

abbrev pub invariant-loop-i : goal.invariant-loop-i
invariant-loop-i l = (l.i ≤ length l.line) × (steps started 0 l.line ≡ steps l.s l.i (drop l.i l.line))

abbrev pub decreases-loop-i : goal.decreases-loop-i
decreases-loop-i l = length l.line - l.i
