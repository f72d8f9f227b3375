-- `count` meets its contract: the words that fit the record that the numbers are are counted. Assumes nothing.
use Rattle.keeping.proofs.on_kept.Tells.{counts}
use Rattle.keeping.proofs.on_kept.count.Goals as goal

pub returns : goal.returns
returns c =
    counts c.args.numbers.now c.read.ensures.numbers_len c.read.result c.read.ensures.value c.count-share.result c.count-share.ensures
