-- `wrong` is safe: 15 is the top word. Assumes nothing.
use Rattle.word.specs.Word.{top}
use borrow.Author.Rules.{rules}
use Rattle.try_rules.proofs.wrong.Goals as goal

pub at_word-requires : goal.at_word-requires
unfolding top
at_word-requires c = search rules
