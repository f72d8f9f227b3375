-- `step` meets its contract: what it calls gives the parts of the definition. Assumes nothing.
use mathlib.Core.Path.{ap, ap₂, ◌∙◌}
use mathlib.Core.Bool.{Bool, ◌&&◌, ◌||◌}
use Rattle.std.proofs.Math.Bool.{and_assoc}
use Rattle.net.specs.net_step.Step.{same}
use Rattle.net.proofs.net_step.Stepping.{comes_to, ends_empty}
use Rattle.net.proofs.net_step.step.Goals as goal

pub returns-then-empty : goal.returns-then-empty
returns-then-empty c =
    ends_empty _ c.args.join c.args.words c.third-y.ensures c.join-cuts.ensures c.cut_at.ensures
    c.cut_at-2.ensures c.cut_at-3.ensures (ap (λ (b : Bool). c.join-cuts.result.empty || b) c.any_hollow.ensures) c.if-empty.true

pub returns : goal.returns
unfolding same
returns c =
    comes_to _ c.args.join c.args.words c.third-y.ensures c.join-cuts.ensures c.cut_at.ensures
    c.cut_at-2.ensures c.cut_at-3.ensures (ap (λ (b : Bool). c.join-cuts.result.empty || b) c.any_hollow.ensures)
    (and_assoc c.eq.result c.eq-2.result c.eq-3.result ∙ ap₂ ◌&&◌ c.eq.ensures (ap₂ ◌&&◌ c.eq-2.ensures c.eq-3.ensures))
    c.if-empty.false
