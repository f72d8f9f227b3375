-- `bare_end` meets its contract: the last byte picks the case. Assumes nothing.
use Prim.Native.Nat.{◌-◌}
use native.Mathlib.Omega.{arith}
use borrow.Author.Tests.{eq-eqb, ne_eqb}
use lib.ListN.{get_or, length}
use Rattle.citing.specs.linked.Linked.{bare_end}
use Rattle.citing.proofs.linked.Parts.{empty_end}
use Rattle.citing.proofs.linked.bare_end.Goals as goal

pub returns-then-n-eq0 : goal.returns-then-n-eq0
returns-then-n-eq0 c = (empty_end c.args.line.now (omega arith), omega arith)

pub returns-then-line-last-eq13 : goal.returns-then-line-last-eq13
unfolding bare_end
returns-then-line-last-eq13 c =
    (rw (eq-eqb (get_or c.args.line.now (length c.args.line.now - 1) 0) 13 (omega arith)), omega arith)

pub returns : goal.returns
unfolding bare_end
returns c =
    (rw (ne_eqb (get_or c.args.line.now (length c.args.line.now - 1) 0) 13 (λ e. omega arith)), omega arith)
