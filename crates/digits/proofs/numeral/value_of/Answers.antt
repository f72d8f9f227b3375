-- `value_of` meets its contract: the tests pick the row. Assumes nothing.
use native.Mathlib.Omega.{arith}
use borrow.Author.Tests.{le-leb, lt-leb}
use Rattle.digits.specs.numeral.Numeral.{value_of}
use Rattle.digits.proofs.numeral.value_of.Goals as goal

pub returns-then-b-lt48 : goal.returns-then-b-lt48
unfolding value_of
returns-then-b-lt48 c =
    rw (lt-leb 48 c.args.b (omega arith), lt-leb 97 c.args.b (omega arith))

pub returns-then-b-le57 : goal.returns-then-b-le57
unfolding value_of
returns-then-b-le57 c =
    rw (le-leb 48 c.args.b (omega arith), le-leb c.args.b 57 (omega arith))

pub returns-then-b-lt97 : goal.returns-then-b-lt97
unfolding value_of
returns-then-b-lt97 c =
    rw (le-leb 48 c.args.b (omega arith), lt-leb c.args.b 57 (omega arith), lt-leb 97 c.args.b (omega arith))

pub returns-then-b-le102 : goal.returns-then-b-le102
unfolding value_of
returns-then-b-le102 c =
    rw (le-leb 48 c.args.b (omega arith), lt-leb c.args.b 57 (omega arith), le-leb 97 c.args.b (omega arith), le-leb c.args.b 102 (omega arith))

pub returns : goal.returns
unfolding value_of
returns c =
    rw (le-leb 48 c.args.b (omega arith), lt-leb c.args.b 57 (omega arith), le-leb 97 c.args.b (omega arith), lt-leb c.args.b 102 (omega arith))
