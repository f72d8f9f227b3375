-- `stands` meets its contract: both tests were passed. Assumes nothing.
use mathlib.Core.Bool.{false≢true}
use Rattle.search.proofs.order.test.stands.Goals as goal

pub returns-then-not-rises : goal.returns-then-not-rises
returns-then-not-rises c = λ e. absurd (false≢true e)

pub returns : goal.returns
returns c =
    λ e. record { rises = c.rises.ensures (c.if-not-rises.false); placed = c.placed.ensures e }
