use mathlib.Core.Path.{◌≡◌}
use mathlib.Core.List.{map, ◌++◌}
use Prim.Native.Nat.{◌-◌, ◌≤◌}
use lib.ListN.{drop, take}
use Rattle.rule.specs.Meaning.{RULES}
use Rattle.search.specs.rows.route.Rows.{bare_row}
use Rattle.search.proofs.laying.packing.lay_out.Given as goal

abbrev pub invariant-loop-i : goal.invariant-loop-i
invariant-loop-i l = (l.i ≤ RULES) × (l.rows ≡ take l.i (map bare_row l.packed) ++ drop l.i l.initial.rows)

abbrev pub decreases-loop-i : goal.decreases-loop-i
decreases-loop-i l = RULES - l.i
