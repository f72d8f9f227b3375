use mathlib.Core.Path.{◌≡◌}
use Prim.Native.Nat.{◌+◌, ◌-◌, ◌≤◌}
use lib.ListN.{drop, length}
use lib.Seq.{sets}
use Rattle.frame.specs.fields.Fields.{digits_in}
use Rattle.frame.proofs.fields.put_line.Given as goal

abbrev pub invariant-loop-i : goal.invariant-loop-i
invariant-loop-i l =
    (l.i ≤ length l.line)
    × (length l.out ≡ length l.initial.out)
    × (l.end + length (digits_in (drop l.i l.line)) ≡ l.at + length (digits_in l.line))
    × (sets l.out l.end (digits_in (drop l.i l.line)) ≡ sets l.initial.out l.at (digits_in l.line))

abbrev pub decreases-loop-i : goal.decreases-loop-i
decreases-loop-i l = length l.line - l.i
