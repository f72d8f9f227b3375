-- `look` meets its contract: what is found stands in the head. Assumes nothing.
use Rattle.sheet.proofs.laid_force.Force.{found_in}
use Rattle.sheet.proofs.laid_force.look.Goals as goal

pub lay_out-head-requires : goal.lay_out-head-requires
lay_out-head-requires c = c.requires

pub returns : goal.returns
returns c = found_in _ _ c.lay_out-head.ensures c.refuses-number.ensures
