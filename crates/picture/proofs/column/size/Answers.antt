-- `size` meets its contract: one more than the top word of 6 bits fewer, or 1. Assumes nothing.
use mathlib.Core.Path.{sym}
use Prim.Native.Nat.{◌-◌}
use native.Mathlib.Omega.{arith}
use Rattle.picture.proofs.column.Columns.{more_words, one_word, top_fits}
use Rattle.picture.proofs.column.size.Goals as goal

pub returns-then-width-le-BITS : goal.returns-then-width-le-BITS
returns-then-width-le-BITS c = sym (one_word c.args.width.bits c.if-width-le-BITS.true)

pub overflow_add-result : goal.overflow_add-result
overflow_add-result c =
    omega (arith, c.top.ensures, top_fits (c.args.width.bits - 6) 58 (omega (arith, c.requires.high)))

pub returns : goal.returns
returns c = omega (arith, c.top.ensures, more_words c.args.width.bits)
