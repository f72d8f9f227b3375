use mathlib.Core.Path.{◌≡◌}
use Prim.Native.Nat.{◌-◌, ◌*◌, ◌^◌, ◌≤◌, ◌<◌}
use lib.Seq.{slice}
use Rattle.digits.specs.hexadecimal.Hex.{number, number_from}
use Rattle.digits.proofs.hexadecimal.number.Given as goal

abbrev pub invariant-loop-i : goal.invariant-loop-i
invariant-loop-i l = (l.from ≤ l.i) × (l.i ≤ l.to) × (l.n < 2 ^ (4 * (l.i - l.from))) × (number (slice l.from l.to l.s) ≡ number_from l.n (slice l.i l.to l.s))

abbrev pub decreases-loop-i : goal.decreases-loop-i
decreases-loop-i l = l.to - l.i
