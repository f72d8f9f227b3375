-- `reads_back` is safe: a text is no longer than the room that was lent. Assumes nothing.
use native.Mathlib.Omega.{arith}
use lib.ListN.{length-take}
use Rattle.digits.proofs.phrase.Putting.{put_length}
use Rattle.try_wording.proofs.reads_back.Goals as goal

pub slice_bounds-read-end : goal.slice_bounds-read-end
slice_bounds-read-end c =
    simp length-take (omega (arith, put_length c.put_rule-end.ensures.0, c.put_rule-end.ensures.1))
