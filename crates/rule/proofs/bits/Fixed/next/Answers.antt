-- `Fixed::next` meets its contract: each way out is a case of the next number that has the whole mask. Assumes nothing.
use mathlib.Core.Path.{sym}
use Prim.Native.Nat.{ℕ, ◌+◌, ◌-◌}
use native.Mathlib.Nat.{lt_of_le_of_lt}
use native.Mathlib.Omega.{arith}
use borrow.Author.Rules.{rules}
use lib.Bits.{and_le_r}
use lib.Count.{leading_le}
use lib.Dec.{lit<}
use Rattle.rule.proofs.bits.Next.{tidy_value, clash_none, none_missing, missing_short, raised_is, past, none_next, found_next, found_here}
use Rattle.rule.proofs.bits.Fixed.next.Goals.{Else-missing-eq0}
use Rattle.rule.proofs.bits.Fixed.next.Goals as goal

abbrev from : Else-missing-eq0 → ℕ
from c = c.args.p + (c.in-Bits.mask - c.in-Bits.value)

pub returns-in_default : goal.returns-in_default
returns-in_default c = rw c.in_default.is (sym (clash_none _ _))

pub overflow_sub-gap : goal.overflow_sub-gap
overflow_sub-gap c =
    omega (arith, and_le_r c.in-Bits.value c.in-Bits.mask, tidy_value _ _ _ c.in-Bits.is c.requires.tidy)

pub returns-then-gap-p : goal.returns-then-gap-p
returns-then-gap-p c =
    rw c.in-Bits.is (sym (past _ _ _ _ c.requires.width.high (search rules) (omega arith)))

pub returns-then-missing-eq0 : goal.returns-then-missing-eq0
returns-then-missing-eq0 c =
    rw c.in-Bits.is
    (sym (found_here _ _ _ _ (none_missing _ _ (omega arith) (search rules) c.if-missing-eq0.true) (tidy_value _ _ _ c.in-Bits.is c.requires.tidy) c.requires.p_bound))

pub overflow_cast-low : goal.overflow_cast-low
overflow_cast-low c = record { fits = lt_of_le_of_lt (leading_le 64 _) (lit< tt) }

pub overflow_shr-low : goal.overflow_shr-low
overflow_shr-low c = missing_short (from (goal.at.overflow_shr-low c).Else-missing-eq0) c.in-Bits.mask c.if-missing-eq0.false (search rules)

pub overflow_sub-x : goal.overflow_sub-x
overflow_sub-x c = omega (arith, (raised_is (from (goal.at.overflow_sub-x c).Else-missing-eq0) c.in-Bits.mask (omega arith) (search rules)).high)

pub returns-then-top-x : goal.returns-then-top-x
returns-then-top-x c =
    rw c.in-Bits.is (sym (none_next _ _ _ _ _ (raised_is _ _ (omega arith) (search rules)) (omega arith)))

pub returns : goal.returns
returns c =
    rw c.in-Bits.is (sym (found_next _ _ _ _ _ (raised_is _ _ (omega arith) (search rules)) (tidy_value _ _ _ c.in-Bits.is c.requires.tidy) (omega arith)))
