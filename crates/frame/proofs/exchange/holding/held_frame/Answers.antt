-- `held_frame` meets its contract: more bytes than a frame has are none. Assumes nothing.
use mathlib.Core.Path.{sym}
use native.Mathlib.Omega.{arith}
use lib.ListN.{length-take}
use lib.Seq.{length-take-le}
use Rattle.frame.proofs.Rows.{too_long}
use Rattle.frame.specs.exchange.route.Begun.{begun_line}
use Rattle.frame.proofs.exchange.Held.{Whole}
use Rattle.frame.proofs.exchange.holding.held_frame.Goals.{Start}
use Rattle.frame.proofs.exchange.holding.held_frame.Goals as goal

-- as many places as are held: an array is as long as its type says
whole : (s : Start) → Whole s.args.begun
whole s = s.well_formed.0.1.1.0.1.0.1

pub returns-then-begun-gt-LONGEST : goal.returns-then-begun-gt-LONGEST
unfolding begun_line
returns-then-begun-gt-LONGEST c =
    too_long _ (omega (arith, whole (goal.at.returns-then-begun-gt-LONGEST c).Start, length-take c.args.begun.len c.args.begun.bytes))

pub slice_bounds-decode-end : goal.slice_bounds-decode-end
slice_bounds-decode-end c = sym (length-take-le _ _ (omega (arith, whole (goal.at.slice_bounds-decode-end c).Start)))

pub returns : goal.returns
unfolding begun_line
returns c = c.decode.ensures
