-- `rule_at` meets its contract: the four numbers read are the rule's. Assumes nothing.
use Rattle.std.proofs.Common.{sym}
use Rattle.search.specs.rows.route.Rows.{rule_in}
use Rattle.search.proofs.rows.Reading.{rule_in_lem}
use Rattle.search.proofs.rows.rule_at.Goals as goal

pub returns : goal.returns
unfolding rule_in
returns c = sym (rule_in_lem c.args.rows.now c.args.i)
