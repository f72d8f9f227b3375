use Prim.Native.Nat.{◌-◌, ◌≤◌}
use Rattle.search.specs.order.route.Order.{AllPlaced}
use Rattle.search.proofs.order.test.placed.Given as goal

abbrev pub invariant-loop-i : goal.invariant-loop-i
invariant-loop-i l = (l.i ≤ l.n) × AllPlaced l.n l.order l.i

abbrev pub decreases-loop-i : goal.decreases-loop-i
decreases-loop-i l = l.n - l.i
