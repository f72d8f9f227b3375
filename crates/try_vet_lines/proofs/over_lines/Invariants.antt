-- `over_lines` is safe and ends: the width is one. The measure is the bytes left. Assumes nothing.
use Prim.Native.Nat.{◌-◌}
use lib.ListN.{length}
use Rattle.word.specs.Word.{IsWidth}
use Rattle.try_vet_lines.proofs.over_lines.Given as goal

abbrev pub invariant-loop-from : goal.invariant-loop-from
invariant-loop-from l = IsWidth l.width

abbrev pub decreases-loop-from : goal.decreases-loop-from
decreases-loop-from l = length l.input - l.from
