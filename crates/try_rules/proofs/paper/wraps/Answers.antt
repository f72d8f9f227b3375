-- `paper::wraps` is safe: no word passes the top word of 32 bits. Assumes nothing.
use Rattle.word.specs.Word.{top}
use borrow.Author.Rules.{rules}
use Rattle.try_rules.proofs.paper.wraps.Goals as goal

pub meets-requires : goal.meets-requires
unfolding top
meets-requires c = search rules
