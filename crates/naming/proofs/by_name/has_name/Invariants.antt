use mathlib.Core.Path.{◌≡◌}
use Prim.Native.Nat.{◌-◌, ◌≤◌}
use lib.ListN.{drop, length}
use Rattle.naming.specs.Names.{name_in}
use Rattle.naming.specs.by_name.Which.{same}
use Rattle.naming.proofs.by_name.has_name.Given as goal

abbrev pub invariant-loop-i : goal.invariant-loop-i
invariant-loop-i l =
    (l.i ≤ l.n) × (l.n ≡ length (name_in l.row)) × (l.n ≡ length l.name) × (same (name_in l.row) l.name ≡ same (drop l.i (name_in l.row)) (drop l.i l.name))

abbrev pub decreases-loop-i : goal.decreases-loop-i
decreases-loop-i l = l.n - l.i
