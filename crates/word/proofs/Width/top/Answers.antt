-- `Width::top` meets its contract: the ones of a machine word, shifted down. Assumes nothing.
use Rattle.word.proofs.Cut.{top_shifted}
use Rattle.word.proofs.Width.top.Goals as goal

pub returns : goal.returns
returns c = top_shifted _ c.requires.high
