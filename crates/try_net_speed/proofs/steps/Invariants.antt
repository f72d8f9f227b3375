-- `steps` is safe and ends. The measure is the runs left. Assumes nothing.
use Rattle.std.proofs.Common.{◌-◌, ◌≤◌}
use Rattle.try_net_speed.proofs.steps.Given as goal

abbrev pub invariant-loop-i : goal.invariant-loop-i
invariant-loop-i l = l.i ≤ l.runs

abbrev pub decreases-loop-i : goal.decreases-loop-i
decreases-loop-i l = l.runs - l.i
