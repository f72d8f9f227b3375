use mathlib.Core.Path.{◌≡◌}
use mathlib.Core.List.{◌++◌}
use Prim.Native.Nat.{◌-◌, ◌≤◌}
use lib.ListN.{drop, replicate, take}
use Rattle.search.specs.rows.route.Rows.{no_row}
use Rattle.search.proofs.laying.packing.clear.Given as goal

abbrev pub invariant-loop-i : goal.invariant-loop-i
invariant-loop-i l = (l.n ≤ l.i) × (l.i ≤ l.m) × (l.rows ≡ take l.n l.initial.rows ++ (replicate (l.i - l.n) no_row ++ drop l.i l.initial.rows))

abbrev pub decreases-loop-i : goal.decreases-loop-i
decreases-loop-i l = l.m - l.i
