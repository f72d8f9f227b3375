-- `same` meets its contract: each case is put together as it was. Assumes nothing.
use mathlib.Core.Path.{sym}
use Rattle.desk.proofs.answer.same.Goals as goal

pub returns-in-Bits : goal.returns-in-Bits
returns-in-Bits c = sym c.in-Bits.is
