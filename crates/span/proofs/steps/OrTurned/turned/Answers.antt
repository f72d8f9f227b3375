-- `Or::turned` meets its contract. Assumes nothing.
use Rattle.span.proofs.extent.Turn.{or_turns}
use Rattle.span.proofs.steps.OrTurned.turned.Goals as goal

pub returns : goal.returns
returns c = or_turns c.requires.words.0 c.requires.words.1 c.top-top.ensures c.turned.ensures c.turned-2.ensures
