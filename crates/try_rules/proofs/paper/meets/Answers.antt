-- `paper::meets` is safe: a lawful rule has words. Assumes nothing.
use native.Mathlib.Omega.{arith}
use Rattle.word.specs.Word.{top}
use borrow.Author.Rules.{rules}
use Rattle.try_rules.proofs.paper.meets.Goals as goal

pub meets-requires : goal.meets-requires
unfolding top
meets-requires c =
    let r = c.lawful.ensures c.if-lawful.true in record { width = search rules; x_bound = (omega arith, r.c1_word) }
