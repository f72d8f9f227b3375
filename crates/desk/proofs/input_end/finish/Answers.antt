-- `finish` meets its contract: where a line is begun, the byte 10 that is fed ends it. Assumes nothing.
use Rattle.frame.proofs.exchange.Finishing.{fed_finished}
use Rattle.desk.proofs.input_end.finish.Goals as goal

pub returns : goal.returns
returns c = fed_finished c.if-is_empty.false c.requires.chain_len.1 c.feed.ensures.fed_on.so
