-- `narrowed` meets its contract: where nothing passed before nothing does now, and else the old ends are ends. Assumes nothing.
use mathlib.Core.Path.{◌∙◌}
use Rattle.search.proofs.verdict.Solved.{none_kept}
use Rattle.search.proofs.verdict.laid.narrowed.Goals as goal

pub returns-then-is_none : goal.returns-then-is_none
returns-then-is_none c = c.none.ensures ∙ none_kept _ _ _ (c.requires.bounds.none c.if-is_none.true)

pub solve-requires : goal.solve-requires
solve-requires c = record { width = c.requires.width; lie = c.requires.lie; tidy = c.requires.tidy; ends = c.requires.bounds.ends c.if-is_none.false }

pub returns : goal.returns
returns c = c.solve.ensures
