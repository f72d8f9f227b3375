-- `Xor::turned` meets its contract. Assumes nothing.
use Rattle.span.proofs.extent.Turn.{xor_turns}
use Rattle.span.proofs.steps.XorTurned.turned.Goals as goal

pub returns : goal.returns
returns c = xor_turns c.requires.words.0 c.requires.words.1 c.top-top.ensures c.turned.ensures
