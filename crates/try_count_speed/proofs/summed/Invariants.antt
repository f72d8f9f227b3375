-- `summed` is safe and ends: the measure is the words left. Assumes nothing.
use Rattle.std.proofs.Common.{◌-◌}
use Rattle.try_count_speed.proofs.Counts.{ROOM}
use Rattle.try_count_speed.proofs.summed.Given as goal

abbrev pub invariant-loop-i : goal.invariant-loop-i
invariant-loop-i l = Unit

abbrev pub decreases-loop-i : goal.decreases-loop-i
decreases-loop-i l = ROOM - l.i
