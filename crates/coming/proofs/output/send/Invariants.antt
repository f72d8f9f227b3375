use Prim.Native.Nat.{◌-◌, ◌≤◌}
use lib.ListN.{length}
use Rattle.coming.specs.Calls.{MOST}
use Rattle.coming.proofs.output.send.Given as goal

abbrev pub invariant-loop-came : goal.invariant-loop-came
invariant-loop-came g l = l.count ≤ length l.bytes

abbrev pub decreases-loop-came : goal.decreases-loop-came
decreases-loop-came g l = MOST - l.writes
