-- `main` is safe and ends: the arrays have the places of a record, the buffer has room for one answer, and the answer's bytes are within it.
-- Assumes nothing.
use mathlib.Core.Path.{sym}
use native.Mathlib.Omega.{arith}
use lib.Seq.{length-take-le}
use Rattle.desk.proofs.main.Goals as goal

pub slice_bounds-send-end : goal.slice_bounds-send-end
slice_bounds-send-end c = sym (length-take-le _ _ (omega arith))
