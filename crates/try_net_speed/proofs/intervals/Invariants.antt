-- `intervals` is safe and ends. The measure is the places left. Assumes nothing.
use Rattle.std.proofs.Common.{◌-◌, ◌≤◌}
use Rattle.net.specs.net_step.Named.{WORDS}
use Rattle.try_net_speed.proofs.intervals.Given as goal

abbrev pub invariant-loop-k : goal.invariant-loop-k
invariant-loop-k l = l.k ≤ WORDS

abbrev pub decreases-loop-k : goal.decreases-loop-k
decreases-loop-k l = WORDS - l.k
