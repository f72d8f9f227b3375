-- `counted` is safe and ends: the measure is the counts left. Assumes nothing.
use Rattle.std.proofs.Common.{◌-◌}
use Rattle.try_count_speed.proofs.counted.Given as goal

abbrev pub invariant-loop : goal.invariant-loop
invariant-loop l = Unit

abbrev pub decreases-loop : goal.decreases-loop
decreases-loop l = l.times - l.counter
