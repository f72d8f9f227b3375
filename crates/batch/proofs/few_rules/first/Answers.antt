-- `first` meets its contract: more than all rules are all rules. Assumes nothing.
use native.Mathlib.Omega.{arith}
use Rattle.batch.proofs.few_rules.Read.{first_so}
use Rattle.batch.proofs.few_rules.first.Goals as goal

pub returns : goal.returns
returns c = first_so c.args.rules (omega arith) _ c.args.count _ c.few-given.ensures c.answered.ensures
