use mathlib.Core.Path.{◌≡◌}
use mathlib.Core.List.{◌++◌}
use Prim.Native.Nat.{◌-◌, ◌≤◌}
use lib.ListN.{drop, take}
use Rattle.rule.specs.Meaning.{RULES}
use Rattle.search.specs.rows.route.Rows.{rules_in}
use Rattle.search.proofs.laying.packing.pack.Given as goal

abbrev pub invariant-loop-i : goal.invariant-loop-i
invariant-loop-i l = (l.i ≤ RULES) × (l.packed ≡ take l.i (rules_in l.rows) ++ drop l.i l.initial.packed)

abbrev pub decreases-loop-i : goal.decreases-loop-i
decreases-loop-i l = RULES - l.i
