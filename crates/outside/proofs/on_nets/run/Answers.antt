-- `run` meets its contract: the net that the rows are is run, and its words are put where it is not refused. Assumes nothing.
use mathlib.Core.Path.{◌≡◌, ◌∙◌, subst}
use lib.ListN.{length}
use Rattle.net.specs.route.Run.{ran}
use Rattle.outside.specs.on_nets.Nets.{Ran, net_in}
use Rattle.outside.proofs.on_nets.Answered.{ended, refused}
use Rattle.outside.proofs.on_nets.run.Goals.{After-run-said}
use Rattle.outside.proofs.on_nets.run.Goals as goal

said : (c : After-run-said) → c.run-said.result ≡ ran (net_in c.args.width c.args.words.now c.args.joins.now) c.args.pay
unfolding net_in
said c =
    c.run-said.ensures
    ∙ (λ j. ran
    (record {
      width = c.args.width;
      words = c.words_in.ensures j;
      count = length c.args.words.now;
      joins = c.joins_in.ensures j;
      joined = length c.args.joins.now;
    })
    c.args.pay)

pub returns-then-number-ne0 : goal.returns-then-number-ne0
returns-then-number-ne0 c =
    refused c.args.width c.args.words.now c.args.joins.now c.args.pay c.run-said.result (said (goal.at.returns-then-number-ne0 c).After-run-said) c.told.result c.refusal_of-number.result c.told.ensures c.refusal_of-number.ensures c.if-number-ne0.true

pub returns : goal.returns
returns c =
    subst (Ran c.args.width c.args.words.now c.args.joins.now c.args.pay _ _) c.if-number-ne0.false
    (ended c.args.width c.args.words.now c.args.joins.now c.args.pay c.run-said.result (said (goal.at.returns c).After-run-said) c.told.result c.refusal_of-number.result c.told.ensures c.refusal_of-number.ensures c.if-number-ne0.false _ c.put.ensures)
