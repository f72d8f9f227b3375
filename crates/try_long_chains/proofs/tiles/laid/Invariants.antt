-- `laid` lays no more rules than there is room for.
use Rattle.std.proofs.Common.{◌≤◌}
use Rattle.rule.specs.Meaning.{RULES}
use Rattle.try_long_chains.proofs.tiles.laid.Given as goal

abbrev pub invariant-loop-at : goal.invariant-loop-at
invariant-loop-at l = l.n ≤ RULES
