use mathlib.Core.Path.{◌≡◌}
use Prim.Native.Nat.{◌-◌, ◌≤◌}
use lib.ListN.{take}
use Rattle.chain.specs.route.OnBands.{furthest_band}
use Rattle.search.specs.rows.route.Rows.{bands_in}
use Rattle.chain.proofs.reach.furthest.Given as goal

abbrev pub invariant-loop-i : goal.invariant-loop-i
invariant-loop-i l = (l.i ≤ l.n) × (l.far ≡ furthest_band (take l.i (bands_in l.rows)) l.top l.p)

abbrev pub decreases-loop-i : goal.decreases-loop-i
decreases-loop-i l = l.n - l.i
