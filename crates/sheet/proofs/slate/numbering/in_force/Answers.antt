-- `in_force` meets its contract. Assumes nothing.
use mathlib.Core.Path.{sym}
use native.Mathlib.Omega.{arith}
use Rattle.sheet.proofs.slate.Shaped.{none_waits, some_wait}
use Rattle.sheet.proofs.slate.numbering.in_force.Goals as goal

pub returns-then-waiting-eq0 : goal.returns-then-waiting-eq0
returns-then-waiting-eq0 c = sym (none_waits _ _ _ c.if-waiting-eq0.true)

pub bounds-marks-marked : goal.bounds-marks-marked
bounds-marks-marked c = omega arith

pub returns : goal.returns
returns c = sym (some_wait _ _ _ (omega arith))
