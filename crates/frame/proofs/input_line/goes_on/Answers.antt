-- `goes_on` meets its contract: each test is that of the line's next byte. Assumes nothing.
use mathlib.Core.Path.{sym}
use borrow.Author.Rules.{rules}
use Rattle.frame.proofs.input_line.Eight.{eight_more}
use Rattle.frame.proofs.input_line.goes_on.Goals as goal

pub returns : goal.returns
returns c =
    sym (eight_more c.args.bytes.now c.args.at (search rules))
