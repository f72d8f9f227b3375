use mathlib.Core.Path.{◌≡◌}
use Prim.Native.Nat.{◌-◌, ◌≤◌}
use Rattle.naming.specs.Names.{put}
use Rattle.naming.proofs.put.Given as goal

abbrev pub invariant-loop-i : goal.invariant-loop-i
invariant-loop-i l = (l.i ≤ l.times) × (put l.row (l.times - l.i) l.at l.names ≡ put l.row l.times l.from l.initial.names)

abbrev pub decreases-loop-i : goal.decreases-loop-i
decreases-loop-i l = l.times - l.i
