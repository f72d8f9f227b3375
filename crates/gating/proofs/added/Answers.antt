-- `added` meets its contract: a refusal hands the record back, and the four adds come to the page after the gate. Assumes nothing.
use mathlib.Core.Path.{subst}
use Rattle.sheet.specs.Statements.{Outcome}
use Rattle.gating.specs.gate_refusal.route.Seen.{GateSeen, SeenFor}
use Rattle.gating.specs.route.Added.{AddedFor}
use Rattle.gating.proofs.Gating.{four_added, refused_gate}
use Rattle.gating.proofs.added.Goals as goal

pub returns-then-number-ne0 : goal.returns-then-number-ne0
unfolding AddedFor SeenFor Outcome
returns-then-number-ne0 c = λ g n f. refused_gate g (c.refusal_of-number.ensures g n) c.if-number-ne0.true

pub returns : goal.returns
unfolding AddedFor SeenFor Outcome
returns c = λ g n f.
    four_added c.args.sheet g c.args.four _ _ _ _ (subst (GateSeen c.args.sheet g) c.if-number-ne0.false (c.refusal_of-number.ensures g n)) f
    c.add-first.ensures c.add-second.ensures c.add-third.ensures c.add.ensures
