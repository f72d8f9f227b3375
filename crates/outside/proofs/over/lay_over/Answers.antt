-- `lay_over` meets its contract. The loop's invariant: the elements passed are laid, and the other places are as they were. Assumes nothing.
use mathlib.Core.Path.{ap, refl, ◌∙◌}
use native.Mathlib.Omega.{arith}
use Rattle.outside.proofs.net_words.Over.{laid_all, laid_more}
use Rattle.outside.proofs.over.lay_over.Goals as goal

pub loop-place-preserved : goal.loop-place-preserved
loop-place-preserved g c = λ f law.
    laid_more f c.args.from.now c.args.onto.now c.min-count.result (omega (arith, c.min-count.ensures)) c.element-item.result c.loop-place.place (omega arith)
    (law c.element-item.result c.read.result (record { shown = _; shows = refl; says = record { met = c.read.ensures } }) ∙ ap f c.element-item.is)
    (c.loop-place.invariant f law)

pub returns : goal.returns
returns g c = λ f law.
    laid_all f c.args.from.now c.args.onto.now c.min-count.result (omega (arith, c.min-count.ensures)) c.loop-place.place (omega arith) (c.loop-place.invariant f law)
