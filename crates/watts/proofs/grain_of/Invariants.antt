use mathlib.Core.Path.{◌≡◌}
use Prim.Native.Nat.{◌-◌, ◌*◌, ◌^◌, ◌≤◌, ◌<◌}
use Rattle.watts.proofs.Turns.{LARGEST}
use Rattle.watts.proofs.grain_of.Given as goal

abbrev pub invariant-loop-size : goal.invariant-loop-size
invariant-loop-size l = (l.size ≡ l.power * 2 ^ l.doublings) × (l.doublings < l.size) × (l.size ≤ LARGEST)

abbrev pub decreases-loop-size : goal.decreases-loop-size
decreases-loop-size l = LARGEST - l.size
