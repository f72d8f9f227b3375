-- `ask` meets its contract: the slate that is asked holds the value. Assumes nothing.
use Rattle.sheet.proofs.slate_whole.Laying.{empty_room}
use Rattle.sheet.proofs.slate_whole.ask.Goals as goal

pub lay_out-head-requires : goal.lay_out-head-requires
lay_out-head-requires c = empty_room

pub ask-requires : goal.ask-requires
ask-requires c = (_, c.lay_out-head.ensures.held)

pub returns : goal.returns
returns c =
    record { from = record { head = c.lay_out-head.result; rows = _; marks = _; same = c.lay_out-head.ensures.marks_after; held = c.lay_out-head.ensures.held }; asks = c.ask.ensures }
