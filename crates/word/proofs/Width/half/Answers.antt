-- `Width::half` meets its contract: one bit, shifted up. Assumes nothing.
use Rattle.word.proofs.Cut.{half_shifted}
use Rattle.word.proofs.Width.half.Goals as goal

pub returns : goal.returns
returns c = half_shifted _ c.requires.low c.requires.high
