-- `Sheet::open` meets its contract: an opening is the same on any record, so that the blank one serves. Assumes nothing.
use Rattle.sheet.proofs.ByValue.{handed_back, opened_anew}
use Rattle.sheet.proofs.Sheet.open.Goals as goal

pub returns-then-is_refused : goal.returns-then-is_refused
returns-then-is_refused c = handed_back _ _ _ _ c.called-answer.ensures c.if-is_refused.true

pub returns : goal.returns
returns c = opened_anew _ _ _ _ c.called-answer.ensures c.if-is_refused.false
