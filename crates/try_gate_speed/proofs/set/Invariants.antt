-- `set` is safe and ends: the measure is the gates left. Assumes nothing.
use Rattle.std.proofs.Common.{ℕ, ◌-◌, ◌/◌, rules}
use Rattle.rule.specs.Meaning.{RULES}
use Rattle.try_gate_speed.proofs.set.Given as goal

-- the gates that a sheet takes, of four rules each
abbrev pub GATES : ℕ
GATES = RULES / 4

abbrev pub invariant-loop-i : goal.invariant-loop-i
invariant-loop-i l = Unit

abbrev pub decreases-loop-i : goal.decreases-loop-i
decreases-loop-i l = GATES - l.i
