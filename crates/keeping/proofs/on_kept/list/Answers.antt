-- `list` meets its contract: the words that fit the record that the numbers are are listed. Assumes nothing.
use Rattle.keeping.proofs.on_kept.Tells.{lists}
use Rattle.keeping.proofs.on_kept.list.Goals as goal

pub returns : goal.returns
returns c =
    lists c.args.numbers.now c.read.ensures.numbers_len c.read.result c.read.ensures.value c.list-listing.result c.list-listing.ensures
