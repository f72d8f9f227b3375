-- The lemma that the goals of `ends` want: a smallest result is a word. Assumes nothing.
use Rattle.span.proofs.extent.Searched.{smallest_word}

pub ruleset wanted = (smallest_word)
