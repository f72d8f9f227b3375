-- `check` meets its contract: it gives the status of what is found of some numbers, or that of a mistake. Assumes nothing.
use Rattle.vet.proofs.checking.Checked.{found_so}
use Rattle.vet.proofs.checking.check.Goals as goal

pub returns-in-Ok : goal.returns-in-Ok
returns-in-Ok g c = found_so _ _ _ _ c.found_of-found.ensures.result_value c.in-Ok.ensures
