use mathlib.Core.Path.{◌≡◌}
use Prim.Native.Nat.{◌-◌}
use lib.ListN.{drop, length}
use Rattle.line.specs.piece.Piece.{word_at, word_from}
use Rattle.line.proofs.piece.next.Given as goal

abbrev pub invariant-loop-i : goal.invariant-loop-i
invariant-loop-i l = word_at l.line l.at ≡ word_from l.token l.i (drop l.i l.line)

abbrev pub decreases-loop-i : goal.decreases-loop-i
decreases-loop-i l = length l.line - l.i
