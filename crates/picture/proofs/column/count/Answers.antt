-- `count` meets its contract: one more than the top word of fewer than 6 bits, or 64. Assumes nothing.
use mathlib.Core.Path.{sym}
use native.Mathlib.Omega.{arith}
use Rattle.picture.proofs.column.Columns.{all_columns, few_columns, top_fits}
use Rattle.picture.proofs.column.count.Goals as goal

pub overflow_add-result : goal.overflow_add-result
overflow_add-result c = omega (arith, c.top.ensures, top_fits c.args.width.bits 6 (omega (arith, c.if-width-lt-BITS.true)))

pub returns-then-width-lt-BITS : goal.returns-then-width-lt-BITS
returns-then-width-lt-BITS c = omega (arith, c.top.ensures, few_columns c.args.width.bits c.if-width-lt-BITS.true)

pub returns : goal.returns
returns c = sym (all_columns c.args.width.bits c.if-width-lt-BITS.false)
