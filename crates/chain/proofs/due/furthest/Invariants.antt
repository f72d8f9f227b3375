use Prim.Native.Nat.{◌-◌, ◌≤◌}
use Rattle.search.specs.rows.route.Rows.{bands_in}
use Rattle.chain.specs.due.route.Due.{Passed}
use Rattle.chain.proofs.due.Best.{Held}
use Rattle.chain.proofs.due.Walk.{Seen}
use Rattle.chain.proofs.due.furthest.Given as goal

abbrev pub invariant-loop-k : goal.invariant-loop-k
invariant-loop-k l = (l.initial.k ≤ l.k) × Passed l.top l.n (bands_in l.rows) l.order l.k l.p × Held l.top l.p (bands_in l.rows) (Seen l.order l.initial.k l.k) l.far

abbrev pub decreases-loop-k : goal.decreases-loop-k
decreases-loop-k l = l.n - l.k
