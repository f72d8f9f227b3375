-- `full` is safe and ends: the measure is the rules left. Assumes nothing.
use Rattle.std.proofs.Common.{◌-◌}
use Rattle.rule.specs.Meaning.{RULES}
use Rattle.try_count_speed.proofs.sheets.full.Given as goal

abbrev pub invariant-loop-i : goal.invariant-loop-i
invariant-loop-i l = Unit

abbrev pub decreases-loop-i : goal.decreases-loop-i
decreases-loop-i l = RULES - l.i
