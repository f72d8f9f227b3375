-- `Width::sub` meets its contract: the machine's wrapping difference, masked to the width. Assumes nothing.
use Rattle.std.proofs.Common.{◌+◌, ◌-◌, ◌%◌, ◌^◌, ◌∙◌, ap, bit_and}
use Rattle.word.proofs.Cut.{minus_masked, wrapped_back}
use Rattle.word.proofs.Width.sub.Goals as goal

pub returns : goal.returns
returns c =
    ap (bit_and ((c.args.a + (2 ^ 64 - c.args.b)) % 2 ^ 64)) c.top.ensures
    ∙ minus_masked _ _ _ _ c.requires.high (wrapped_back c.args.a c.args.b c.ranges.a.fits c.ranges.b.fits)
