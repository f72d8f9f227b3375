-- `words` meets its contract: a column is as many words as it has, from its number times as many on, and none is above the top word.
-- Assumes nothing.
use mathlib.Core.Path.{◌≡◌, ap}
use Prim.Native.Nat.{ℕ, ◌+◌, ◌-◌, ◌*◌, ◌≤◌}
use native.Mathlib.Omega.{arith}
use Rattle.word.specs.Word.{top}
use Rattle.picture.specs.column.Column.{size, words_of}
use Rattle.picture.proofs.column.Columns.{column_words, some_words, top_fits}
use Rattle.picture.proofs.column.words.Goals.{After-size-size, Start}
use Rattle.picture.proofs.column.words.Goals as goal

-- its words are words
within : (s : Start) → (s.args.column * size s.args.width.bits + (size s.args.width.bits - 1) ≤ top s.args.width.bits) × (top s.args.width.bits + 1 ≤ 18446744073709551616)
unfolding words_of
within s =
    ((column_words s.args.width.bits s.args.column s.requires.column_bound).1, omega (arith, top_fits s.args.width.bits 64 s.requires.width.high))

product : (c : After-size-size) → c.args.column * c.size-size.result ≡ c.args.column * size c.args.width.bits
product c = ap (λ (n : ℕ). c.args.column * n) c.size-size.ensures

pub overflow_mul-from : goal.overflow_mul-from
overflow_mul-from c = omega (arith, within (goal.at.overflow_mul-from c).Start, product (goal.at.overflow_mul-from c).After-size-size)

pub overflow_sub-result : goal.overflow_sub-result
overflow_sub-result c = omega (arith, c.size-size.ensures, some_words c.args.width.bits)

pub overflow_add-result : goal.overflow_add-result
overflow_add-result c = omega (arith, within (goal.at.overflow_add-result c).Start, product (goal.at.overflow_add-result c).After-size-size, c.size-size.ensures)

pub returns : goal.returns
unfolding words_of
returns c = ap (λ (n : ℕ). record { from = c.args.column * n; to = c.args.column * n + (n - 1) }) c.size-size.ensures
