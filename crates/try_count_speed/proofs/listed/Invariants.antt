-- `listed` is safe and ends: the buffer keeps its length, and the measure is the buffers left. Assumes nothing.
use Rattle.std.proofs.Common.{◌≡◌, ◌-◌, length}
use Rattle.try_count_speed.proofs.Counts.{ROOM}
use Rattle.try_count_speed.proofs.listed.Given as goal

abbrev pub invariant-loop : goal.invariant-loop
invariant-loop l = ROOM ≡ length l.out

abbrev pub decreases-loop : goal.decreases-loop
decreases-loop l = l.buffers - l.counter
