-- `weighable` meets its contract: the tests stand in the order of the definition. Assumes nothing.
use mathlib.Core.Path.{refl}
use borrow.Author.Tests.{eq-eqb, le-leb, lt-leb, ne_eqb}
use native.Mathlib.Omega.{arith}
use Rattle.outside.specs.handing.Handed.{weigh_number}
use Rattle.outside.proofs.handing.weighable.Goals.{then-width-lt1-via-then-width-lt1, then-width-lt1-via-else-width-lt1+then-width-gt-LIMIT}
use Rattle.outside.proofs.handing.weighable.Goals as goal

pub returns-then-width-lt1 : goal.returns-then-width-lt1
unfolding weigh_number
returns-then-width-lt1 c = elim c.then-width-lt1.branch [
  | then-width-lt1-via-then-width-lt1 w ↦ (rw (lt-leb 1 c.args.width (omega arith)), λ e. omega arith)
  | then-width-lt1-via-else-width-lt1+then-width-gt-LIMIT w ↦ (rw (le-leb 1 c.args.width (omega arith), lt-leb c.args.width 64 (omega arith)), λ e. omega arith)
]

pub returns-then-number-ne0 : goal.returns-then-number-ne0
unfolding weigh_number
returns-then-number-ne0 c =
    (rw (le-leb 1 c.args.width (omega arith), le-leb c.args.width 64 (omega arith), ← c.refusal_of-number.ensures, ne_eqb _ 0 c.if-number-ne0.true), c.if-number-ne0.true)

pub returns-then-top-word : goal.returns-then-top-word
unfolding weigh_number
returns-then-top-word c =
    (rw (le-leb 1 c.args.width (omega arith), le-leb c.args.width 64 (omega arith), ← c.refusal_of-number.ensures, eq-eqb _ 0 c.if-number-ne0.false, ← c.top.ensures, lt-leb _ _ c.if-top-word.true), λ e. omega arith)

pub returns-else-top-word : goal.returns-else-top-word
unfolding weigh_number
returns-else-top-word c =
    (refl, rw (le-leb 1 c.args.width (omega arith), le-leb c.args.width 64 (omega arith), ← c.refusal_of-number.ensures, eq-eqb _ 0 c.if-number-ne0.false, ← c.top.ensures, le-leb _ _ c.if-top-word.false))
