-- `read` meets its contract: a line that is too long, one that the desk wrote, or a lab's. Assumes nothing.
use mathlib.Core.Path.{sym, ap, ◌∙◌}
use native.Mathlib.Omega.{arith}
use borrow.Author.Tests.{le-ltb, lt-ltb}
use lib.ListN.{length}
use Rattle.std.specs.Prelude.{Option}
use Rattle.chain.specs.declared.Link.{Link}
use Rattle.citing.specs.Citation.{citation, or_lab}
use Rattle.citing.proofs.read.Goals as goal

pub returns-then-line-gt-LIMIT : goal.returns-then-line-gt-LIMIT
unfolding citation
returns-then-line-gt-LIMIT c =
    rw (lt-ltb 1024 (length c.args.line.now) (omega arith))

pub returns-in-Some : goal.returns-in-Some
unfolding citation or_lab
returns-in-Some c =
    rw (le-ltb 1024 (length c.args.line.now) (omega arith)) (ap (λ (k : Option Link). or_lab k c.args.line.now) (sym c.in-Some.is ∙ c.read.ensures))

pub returns-in-None : goal.returns-in-None
unfolding citation or_lab
returns-in-None c =
    rw (le-ltb 1024 (length c.args.line.now) (omega arith))
    (c.lab_says.ensures ∙ ap (λ (k : Option Link). or_lab k c.args.line.now) (sym c.in-None.is ∙ c.read.ensures))
