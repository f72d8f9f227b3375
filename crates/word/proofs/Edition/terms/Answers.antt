-- `Edition::terms` meets its contract: each case is a row of the table. Assumes nothing.
use Rattle.std.proofs.Common.{sym, ap}
use Rattle.word.specs.Edition.{terms}
use Rattle.word.proofs.Edition.terms.Goals as goal

pub returns-in-Old : goal.returns-in-Old
unfolding terms
returns-in-Old c = sym (ap terms c.in-Old.is)

pub returns-in-New : goal.returns-in-New
unfolding terms
returns-in-New c = sym (ap terms c.in-New.is)
