-- `past_place` meets its contract: the test picks the row. Assumes nothing.
use Rattle.digits.proofs.numeral.past_place.Goals as goal

pub returns-then-point : goal.returns-then-point
returns-then-point c =
    rw c.if-point.true

pub returns : goal.returns
returns c =
    rw c.if-point.false
