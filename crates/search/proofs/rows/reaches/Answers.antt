-- `reaches` meets its contract: how far up from the start a word is tells whether it is met. Assumes nothing.
use Rattle.std.proofs.Common.{arith}
use Rattle.word.proofs.Cut.{wrapped_back}
use Rattle.rule.proofs.band.Arcs.{by_differences}
use Rattle.search.specs.rows.route.Rows.{onward}
use Rattle.search.proofs.rows.reaches.Goals as goal

pub returns : goal.returns
unfolding onward
returns c =
    by_differences c.args.from (onward c.args.from c.args.far) c.args.x _ c.args.far (omega arith) (omega arith) (omega arith) (omega arith) (omega arith)
    (wrapped_back c.args.x c.args.from (omega arith) (omega arith)) (omega arith)
