-- `Band::by_sense` meets its contract. Assumes nothing.
use Rattle.std.proofs.Common.{arith, eq-eqb}
use Rattle.rule.specs.band.route.Band.{by_sense}
use Rattle.rule.proofs.band.Laying.{negated_side}
use Rattle.rule.proofs.band.Band.by_sense.Goals as goal

pub returns-then-sense-eq0 : goal.returns-then-sense-eq0
unfolding by_sense
returns-then-sense-eq0 c = rw (eq-eqb _ 0 c.if-sense-eq0.true)

pub returns : goal.returns
returns c = negated_side _ _ (λ e. omega arith)
