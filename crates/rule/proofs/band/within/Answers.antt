-- `within` meets its contract: how far up from the arc's start a word is tells whether the arc has it. Assumes nothing.
use Rattle.std.proofs.Common.{arith}
use Rattle.word.proofs.Cut.{wrapped_back}
use Rattle.rule.proofs.band.Arcs.{by_differences}
use Rattle.rule.proofs.band.within.Goals as goal

pub returns : goal.returns
returns c =
    by_differences c.args.from c.args.to c.args.x _ _ (omega arith) (omega arith) (omega arith) (omega arith) (omega arith)
    (wrapped_back c.args.x c.args.from c.ranges.x.fits c.ranges.from.fits) (wrapped_back c.args.to c.args.from c.ranges.to.fits c.ranges.from.fits)
