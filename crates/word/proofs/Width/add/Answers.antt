-- `Width::add` meets its contract: the machine's wrapping sum, masked to the width. Assumes nothing.
use Rattle.std.proofs.Common.{◌+◌, ◌%◌, ◌^◌, ◌∙◌, ap, bit_and}
use Rattle.word.proofs.Cut.{plus_masked}
use Rattle.word.proofs.Width.add.Goals as goal

pub returns : goal.returns
returns c = ap (bit_and ((c.args.a + c.args.b) % 2 ^ 64)) c.top.ensures ∙ plus_masked _ _ _ c.requires.high
