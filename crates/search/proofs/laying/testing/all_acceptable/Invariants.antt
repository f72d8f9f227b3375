use mathlib.Core.Path.{◌≡◌}
use Prim.Native.Nat.{◌-◌, ◌≤◌}
use lib.ListN.{drop, take}
use Rattle.rule.specs.accept.Accept.{acceptable, every}
use Rattle.search.specs.rows.route.Rows.{rules_in}
use Rattle.search.proofs.laying.testing.all_acceptable.Given as goal

abbrev pub invariant-loop-i : goal.invariant-loop-i
invariant-loop-i l =
    (l.i ≤ l.n) × (every (acceptable l.width.bits) (take l.n (rules_in l.rows)) ≡ every (acceptable l.width.bits) (drop l.i (take l.n (rules_in l.rows))))

abbrev pub decreases-loop-i : goal.decreases-loop-i
decreases-loop-i l = l.n - l.i
