-- `Band::start` meets its contract: one law for each way out. Assumes nothing.
use Rattle.std.proofs.Common.{sym}
use Rattle.rule.proofs.band.Runs.{inside-from, inside_zero, outside_from, outside_zero}
use Rattle.rule.proofs.band.Band.start.Goals as goal

pub returns-then-self-p : goal.returns-then-self-p
returns-then-self-p c =
    sym (inside-from _ _ _ c.requires.0 c.requires.1 c.requires.2 c.if-self.true c.if-self-p.true)

pub returns-then-self-p-2 : goal.returns-then-self-p-2
returns-then-self-p-2 c =
    sym (outside_from _ _ _ c.requires.0 c.requires.1 c.requires.2 c.if-self.false c.if-self-p-2.true)

pub returns-else-self-p : goal.returns-else-self-p
returns-else-self-p c =
    sym (inside_zero _ _ _ c.requires.0 c.requires.1 c.requires.2 c.if-self.true c.if-self-p.false)

pub returns-else-self-p-2 : goal.returns-else-self-p-2
returns-else-self-p-2 c =
    sym (outside_zero _ _ _ c.requires.0 c.requires.1 c.requires.2 c.if-self.false c.if-self-p-2.false)
