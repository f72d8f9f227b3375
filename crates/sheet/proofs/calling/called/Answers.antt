-- `called` meets its contract: the call is made on a value that has the record's numbers. Assumes nothing.
use Rattle.sheet.proofs.ByValue.{by_value}
use Rattle.sheet.proofs.calling.called.Goals as goal

pub returns : goal.returns
returns c =
    by_value c.whole.result c.whole.ensures c.call-after.ensures c.sheet_of-sheet.ensures
