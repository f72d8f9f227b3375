-- `lay_out` meets its contract: the value that is laid out has the record's numbers. Assumes nothing.
use Rattle.sheet.proofs.ByValue.{packed_whole}
use Rattle.sheet.proofs.laid.lay_out.Goals as goal

pub returns : goal.returns
returns c = record { marks_after = packed_whole c.whole.result c.whole.ensures _ _ _ c.lay_out.ensures.marks_after; held = c.lay_out.ensures.held }
