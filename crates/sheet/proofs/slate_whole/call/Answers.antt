-- `call` meets its contract: the call is made on the slate, which holds the value. Assumes nothing.
use Rattle.sheet.proofs.slate_make.Places.{same_places}
use Rattle.sheet.proofs.slate_whole.Laying.{empty_room}
use Rattle.sheet.proofs.slate_whole.call.Goals as goal

pub lay_out-head-requires : goal.lay_out-head-requires
lay_out-head-requires c = empty_room

pub pack-whole-requires : goal.pack-whole-requires
pack-whole-requires c = (same_places c.lay_out-head.ensures.held c.make-said.ensures).rows_places

pub returns : goal.returns
returns c =
    record { from = record { head = c.lay_out-head.result; rows = _; marks = _; same = c.lay_out-head.ensures.marks_after; held = c.lay_out-head.ensures.held }; head = _; rows = _; marks = _; makes = c.make-said.ensures; left = c.pack-whole.ensures }
