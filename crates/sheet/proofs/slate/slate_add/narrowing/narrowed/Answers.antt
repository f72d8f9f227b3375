-- `narrowed` meets its contract: where the old ends are ends still nothing moves, and else they bound the search. Assumes nothing.
use mathlib.Core.Path.{sym, ◌∙◌}
use Rattle.sheet.proofs.slate.slate_add.narrowing.narrowed.Goals as goal

pub returns-then-stays : goal.returns-then-stays
returns-then-stays c = c.requires.unmoved (sym c.stays.ensures ∙ c.if-stays.true)
