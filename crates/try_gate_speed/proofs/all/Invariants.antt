-- `all` is safe and ends: the measure is the sheets left. Assumes nothing.
use Rattle.std.proofs.Common.{◌-◌}
use Rattle.try_gate_speed.proofs.all.Given as goal

abbrev pub invariant-loop : goal.invariant-loop
invariant-loop l = Unit

abbrev pub decreases-loop : goal.decreases-loop
decreases-loop l = l.times - l.counter
