-- `ask` meets its contract: the record that the numbers are is asked. Assumes nothing.
use Rattle.keeping.proofs.on_kept.Tells.{asks}
use Rattle.keeping.proofs.on_kept.ask.Goals as goal

pub returns : goal.returns
returns c =
    asks c.args.numbers.now c.read.ensures.numbers_len c.read.result c.read.ensures.value c.ask-reply.result c.ask-reply.ensures
