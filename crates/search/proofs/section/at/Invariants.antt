use mathlib.Core.Path.{◌≡◌}
use Prim.Native.Nat.{◌-◌, ◌≤◌}
use lib.ListN.{drop, take}
use Rattle.search.specs.rows.route.Rows.{bands_in}
use Rattle.search.proofs.section.Scan.{scan}
use Rattle.search.proofs.section.at.Given as goal

abbrev pub invariant-loop-i : goal.invariant-loop-i
invariant-loop-i l =
    (l.i ≤ l.n) × (l.end ≤ l.top) × (scan l.top l.p (drop l.i (take l.n (bands_in l.rows))) l.end ≡ scan l.top l.p (take l.n (bands_in l.rows)) l.top)

abbrev pub decreases-loop-i : goal.decreases-loop-i
decreases-loop-i l = l.n - l.i
