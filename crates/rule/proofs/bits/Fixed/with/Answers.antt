-- `Fixed::with` meets its contract: each way out is a case of joining the rule. Assumes nothing.
use mathlib.Core.Path.{refl}
use borrow.Author.Tests.{eq-eqb, ne_eqb}
use Rattle.rule.proofs.bits.With.{other_form, clash_stays, tested}
use Rattle.rule.proofs.bits.Fixed.with.Goals as goal

pub returns-then-rule-ne7 : goal.returns-then-rule-ne7
returns-then-rule-ne7 c = other_form _ _ c.if-rule-ne7.true

pub returns-in_default : goal.returns-in_default
returns-in_default c = clash_stays _ _ c.if-rule-ne7.false c.in_default.is

pub returns-then-is_stray : goal.returns-then-is_stray
returns-then-is_stray c =
    tested _ _ _ _ c.if-rule-ne7.false c.in-Bits.is (ne_eqb _ _ c.if-is_stray.true) refl

pub returns-then-differs : goal.returns-then-differs
returns-then-differs c =
    tested _ _ _ _ c.if-rule-ne7.false c.in-Bits.is (eq-eqb _ _ c.if-is_stray.false) (ne_eqb _ _ c.if-differs.true)

pub returns : goal.returns
returns c =
    tested _ _ _ _ c.if-rule-ne7.false c.in-Bits.is (eq-eqb _ _ c.if-is_stray.false) (eq-eqb _ _ c.if-differs.false)
