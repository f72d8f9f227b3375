-- `put` meets its contract: what is told is a number or a reply. Assumes nothing.
use mathlib.Core.Path.{subst}
use Rattle.frame.proofs.fields.Lines.{one_line}
use Rattle.desk.specs.told.route.Told.{Few, told_lines}
use Rattle.desk.proofs.told.put.Goals as goal

pub put_reply-requires : goal.put_reply-requires
unfolding Few
put_reply-requires c = (c.requires.0, subst Few c.in-Asking.is c.requires.1)

pub returns-in-Number : goal.returns-in-Number
unfolding told_lines
returns-in-Number c = rw c.in-Number.is (one_line _ c.put_number.ensures)

pub returns-in-Asking : goal.returns-in-Asking
unfolding told_lines
returns-in-Asking c = rw c.in-Asking.is c.put_reply.ensures
