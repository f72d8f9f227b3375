-- `paper::answers` is safe: 13 is a word of 4 bits. Assumes nothing.
use Rattle.word.specs.Word.{top}
use borrow.Author.Rules.{rules}
use Rattle.try_rules.proofs.paper.answers.Goals as goal

pub signed-requires : goal.signed-requires
unfolding top
signed-requires c = search rules
