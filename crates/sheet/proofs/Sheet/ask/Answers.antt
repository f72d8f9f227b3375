-- `Sheet::ask` meets its contract: the value that is asked has the record's numbers. Assumes nothing.
use Rattle.sheet.proofs.ByValue.{asked_by_value}
use Rattle.sheet.proofs.Sheet.ask.Goals as goal

pub returns : goal.returns
returns c = asked_by_value c.whole.result c.whole.ensures c.ask.ensures
