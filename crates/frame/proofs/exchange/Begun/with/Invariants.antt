use mathlib.Core.Path.{◌≡◌}
use Prim.Native.Nat.{◌-◌, ◌≤◌}
use lib.ListN.{drop, length}
use Rattle.frame.specs.exchange.route.Begun.{joined}
use Rattle.frame.proofs.exchange.Begun.with.Given as goal

abbrev pub invariant-loop-i : goal.invariant-loop-i
invariant-loop-i l = (l.i ≤ length l.more) × (joined l.initial.begun l.more ≡ joined l.begun (drop l.i l.more))

abbrev pub decreases-loop-i : goal.decreases-loop-i
decreases-loop-i l = length l.more - l.i
