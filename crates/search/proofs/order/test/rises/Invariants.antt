use Prim.Native.Nat.{ℕ, ◌-◌, ◌≤◌, ◌<◌}
use Rattle.search.specs.rows.route.Rows.{bands_in}
use Rattle.search.specs.order.route.Order.{Rising, eve, placed_band}
use Rattle.search.proofs.order.test.rises.Given as goal

abbrev pub invariant-loop-k : goal.invariant-loop-k
invariant-loop-k loop = (loop.k ≤ loop.n) × Rising loop.top loop.n (bands_in loop.rows) loop.order loop.k × ((l : ℕ) → l < loop.k → eve loop.top (placed_band (bands_in loop.rows) loop.order l) ≤ loop.last)

abbrev pub decreases-loop-k : goal.decreases-loop-k
decreases-loop-k l = l.n - l.k
