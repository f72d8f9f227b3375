-- `over_rules` is safe and ends: the measure is the numbers left. Assumes nothing.
use Prim.Native.Nat.{◌-◌}
use Rattle.try_wording.proofs.over_rules.Given as goal

abbrev pub invariant-loop-i : goal.invariant-loop-i
invariant-loop-i l = Unit

abbrev pub decreases-loop-i : goal.decreases-loop-i
decreases-loop-i l = l.i-end - l.i
