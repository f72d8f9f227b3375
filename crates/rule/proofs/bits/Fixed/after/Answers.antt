-- `Fixed::after` meets its contract: a word that has the bits has the whole mask once its bits are set, and one more with the mask set again is
-- the next that has it. Assumes nothing.
use mathlib.Core.Path.{◌≡◌, sym, subst}
use mathlib.Core.Bool.{true}
use Prim.Native.Nat.{ℕ, ◌+◌, ◌^◌, ◌<◌}
use native.Mathlib.Omega.{arith}
use borrow.Author.Rules.{rules}
use borrow.Author.Tests.{eqb-true}
use lib.Bits.{bit_and, bit_or, and_le_r, or_lt}
use Rattle.rule.specs.declared.bits.Fixed.{Fixed}
use Rattle.rule.specs.declared.bits.Fixed.TheVariants.{Bits}
use Rattle.rule.specs.bits.route.Fixed.{has_bits}
use Rattle.rule.proofs.bits.Next.{after_gap, clash_none, found_after, none_after, tidy_value}
use Rattle.rule.proofs.bits.Fixed.after.Goals.{Else-whole, In-Bits}
use Rattle.rule.proofs.bits.Fixed.after.Goals as goal

-- x has the value under the mask
has_value : (f : Fixed) (m v x : ℕ) → f ≡ Bits m v → has_bits f x ≡ true → bit_and x m ≡ v
unfolding has_bits
has_value f m v x e h = eqb-true _ _ (subst (λ (g : Fixed). has_bits g x ≡ true) e h)

has : (k : In-Bits) → bit_and k.args.x k.in-Bits.mask ≡ k.in-Bits.value
has k = has_value _ _ _ _ k.in-Bits.is k.requires.1

-- with its bits set the word is a word, and not the top one
room : (c : Else-whole) → bit_or c.args.x c.in-Bits.mask + 1 < 2 ^ 64
room c = omega (arith, or_lt 64 c.args.x c.in-Bits.mask (search rules) (search rules), c.if-whole.false)

pub returns-in_default : goal.returns-in_default
returns-in_default c = rw c.in_default.is (sym (clash_none _ _))

pub overflow_sub-gap : goal.overflow_sub-gap
overflow_sub-gap c =
    omega (arith, and_le_r c.in-Bits.value c.in-Bits.mask, tidy_value _ _ _ c.in-Bits.is c.requires.0)

pub returns-then-whole : goal.returns-then-whole
returns-then-whole c =
    rw c.in-Bits.is (sym (none_after _ _ _ (has (goal.at.returns-then-whole c).In-Bits) (search rules) c.if-whole.true))

pub overflow_add-next : goal.overflow_add-next
overflow_add-next c = record { fits = room (goal.at.overflow_add-next c).Else-whole }

pub overflow_sub-next : goal.overflow_sub-next
overflow_sub-next c = after_gap c.in-Bits.mask c.in-Bits.value c.args.x (has (goal.at.overflow_sub-next c).In-Bits)

pub returns : goal.returns
returns c =
    rw c.in-Bits.is (sym (found_after _ _ _ (has (goal.at.returns c).In-Bits) (tidy_value _ _ _ c.in-Bits.is c.requires.0) (search rules) (room (goal.at.returns c).Else-whole)))
