-- `ahead` meets its contract: the test picks the row. Assumes nothing.
use native.Mathlib.Omega.{arith}
use borrow.Author.Tests.{le-ltb, lt-ltb}
use Rattle.digits.specs.hexadecimal.Hex.{glyph}
use Rattle.digits.proofs.hexadecimal.ahead.Goals as goal

pub returns-then-d-lt10 : goal.returns-then-d-lt10
unfolding glyph
returns-then-d-lt10 c = (rw (lt-ltb c.args.d 10 (omega arith)), omega arith)

pub returns : goal.returns
unfolding glyph
returns c = (rw (le-ltb c.args.d 10 (omega arith)), omega arith)
