-- `span` meets its contract, operation by operation. Assumes nothing.
use Rattle.span.specs.interval.Op.{second}
use Rattle.span.proofs.extent.Spans.{and_span, not_span, or_span, read, xor_span}
use Rattle.span.proofs.extent.span.Goals as goal
use mathlib.Core.Path.{refl}

pub ends-requires-clause-words : goal.ends-requires-clause-words
unfolding second
ends-requires-clause-words c = (c.requires.words.0, read c.in-And.is refl c.requires.words.1)

pub ends-requires-in-Or-clause-words : goal.ends-requires-in-Or-clause-words
unfolding second
ends-requires-in-Or-clause-words c = (c.requires.words.0, read c.in-Or.is refl c.requires.words.1)

pub ends-requires-in-Xor-clause-words : goal.ends-requires-in-Xor-clause-words
unfolding second
ends-requires-in-Xor-clause-words c = (c.requires.words.0, read c.in-Xor.is refl c.requires.words.1)

pub returns-in-Not : goal.returns-in-Not
returns-in-Not c = not_span _ _ _ _ c.top.ensures c.requires.words.0 c.in-Not.is c.turned.ensures

pub returns-in-And : goal.returns-in-And
returns-in-And c = and_span _ _ _ _ c.in-And.is c.ends.ensures

pub returns-in-Or : goal.returns-in-Or
returns-in-Or c = or_span _ _ _ _ c.in-Or.is c.ends-in-Or.ensures

pub returns-in-Xor : goal.returns-in-Xor
returns-in-Xor c = xor_span _ _ _ _ c.in-Xor.is c.ends-in-Xor.ensures
