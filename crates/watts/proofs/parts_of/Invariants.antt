use mathlib.Core.Path.{◌≡◌}
use Prim.Native.Nat.{◌+◌, ◌-◌, ◌*◌, ◌^◌, ◌≤◌, ◌<◌}
use Rattle.watts.proofs.Turns.{PAST, TURNS}
use Rattle.watts.proofs.parts_of.Given as goal

abbrev pub invariant-loop-whole : goal.invariant-loop-whole
invariant-loop-whole l =
    (l.whole * l.size + l.rest ≡ l.digits * 2 ^ l.doublings) × (l.rest < l.size) × (l.whole < PAST) × (l.doublings ≤ TURNS)

abbrev pub decreases-loop-whole : goal.decreases-loop-whole
decreases-loop-whole l = TURNS - l.doublings
