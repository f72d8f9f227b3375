-- `Band::reach` meets its contract: one law for each way out. Assumes nothing.
use Rattle.std.proofs.Common.{sym}
use Rattle.rule.proofs.band.Runs.{inside-to, inside_top, outside_to, outside_top}
use Rattle.rule.proofs.band.Band.reach.Goals as goal

pub returns-then-p-self : goal.returns-then-p-self
returns-then-p-self c =
    sym (inside-to _ _ _ c.requires.0 c.requires.1 c.requires.2 c.if-self.true c.if-p-self.true)

pub returns-then-p-self-2 : goal.returns-then-p-self-2
returns-then-p-self-2 c =
    sym (outside_to _ _ _ c.requires.0 c.requires.1 c.requires.2 c.if-self.false c.if-p-self-2.true)

pub returns-else-p-self : goal.returns-else-p-self
returns-else-p-self c =
    sym (inside_top _ _ _ c.requires.0 c.requires.1 c.requires.2 c.if-self.true c.if-p-self.false)

pub returns-else-p-self-2 : goal.returns-else-p-self-2
returns-else-p-self-2 c =
    sym (outside_top _ _ _ c.requires.0 c.requires.1 c.requires.2 c.if-self.false c.if-p-self-2.false)
