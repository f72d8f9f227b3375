-- The bits on the wheel of words turned round, x to the top word less x. A word and its turn have each bit of a mask once
-- between them, so the turned bits are had by the turned words. Assumes nothing.
use mathlib.Core.Path.{◌≡◌, refl, subst}
use Prim.Native.Nat.{ℕ, ◌-◌, ◌≤◌}
use native.Mathlib.Omega.{arith}
use borrow.Author.Tests.{eqb-true, eq-eqb}
use lib.Bits.{bit_and, bit_xor, and_comm, and_le_r, xor_add_and}
use Rattle.word.specs.Word.{top}
use Rattle.word.proofs.Tests.{same_test}
use Rattle.word.proofs.Shared.{shared}
use Rattle.rule.specs.declared.bits.Fixed.{Fixed}
use Rattle.rule.specs.declared.bits.Fixed.TheVariants.{Bits, Clash}
use Rattle.rule.specs.bits.route.Fixed.{has_bits, turned_bits, Tidy, Within}
use Rattle.rule.proofs.bits.Bit.{and_twice}

pub turned_bits_lem : (w : ℕ) (f : Fixed) (x : ℕ) → Tidy f → Within w f → x ≤ top w → has_bits (turned_bits f) x ≡ has_bits f (top w - x)
unfolding has_bits turned_bits Tidy Within
turned_bits_lem w (Bits m v) x t i h =
    same_test _ _
    (λ e. eq-eqb (bit_and (top w - x) m) v (omega (arith, shared w x m h i, and_le_r v m, eqb-true (bit_and x m) (m - v) e)))
    (λ e. eq-eqb (bit_and x m) (m - v) (omega (arith, shared w x m h i, eqb-true (bit_and (top w - x) m) v e)))
turned_bits_lem w Clash x t i h = refl

pub turned_tidy : (w : ℕ) (f : Fixed) → Tidy f → Within w f → Tidy (turned_bits f)
unfolding turned_bits Tidy Within
turned_tidy w (Bits m v) t i =
    let e : bit_and (top w - v) m ≡ m - v = omega (arith, and_le_r v m, shared w v m (omega (arith, and_le_r v m)) i) in
    subst (λ (d : ℕ). bit_and d m ≡ d) e (and_twice (top w - v) m)
turned_tidy w Clash t i = tt

pub flipped : (m v : ℕ) → bit_and v m ≡ v → bit_xor m v ≡ m - v
flipped m v e = omega (arith, xor_add_and m v, and_comm m v)
