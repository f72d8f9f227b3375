-- The facts about the four operations, once over the width: AND and OR are each other's turned version, XOR is its own with one
-- word turned, NOT is the turn itself, and NOT and XOR undo themselves. Turned round, a word and its turn share the bits of any
-- other word between them; the rest is sums. Assumes nothing.
use mathlib.Core.Path.{◌≡◌, refl, ap, ap₂, ◌∙◌}
use Prim.Native.Nat.{ℕ, zero, suc, ◌+◌, ◌-◌, ◌*◌, ◌/◌, ◌%◌, ◌≤◌, ◌<◌}
use native.Mathlib.Nat.{div-add-mod', mod-lt}
use native.Mathlib.Omega.{arith}
use lib.Arith.{bin_ind}
use lib.Bits.{and_comm, and_le_l, bit_and, bit_or, bit_xor, differ, or_add_and, xor_add_and, xor_comm, xor_mod, xor_self, xor_shr, xor_step}
use Rattle.word.specs.Word.{top}
use Rattle.word.proofs.Shared.{shared}

module _ (w a b : ℕ) (ha : a ≤ top w) (hb : b ≤ top w) where
  shares : (bit_and a b + bit_and (top w - a) b ≡ b) × (bit_and (top w - a) b + bit_and (top w - a) (top w - b) ≡ top w - a)
  shares = (
    shared w a b ha hb,
    omega (arith, shared w b (top w - a) hb (omega arith), and_comm (top w - a) b, and_comm (top w - a) (top w - b)),
  )

  pub and_turned : bit_and a b + bit_or (top w - a) (top w - b) ≡ top w
  and_turned = omega (arith, shares, or_add_and (top w - a) (top w - b))

  pub or_turned : bit_or a b + bit_and (top w - a) (top w - b) ≡ top w
  or_turned = omega (arith, shares, or_add_and a b)

  pub xor_turned : bit_xor a b + bit_xor (top w - a) b ≡ top w
  xor_turned = omega (arith, shares, xor_add_and a b, xor_add_and (top w - a) b)

pub not_turns : (w a : ℕ) → a ≤ top w → bit_xor a (top w) ≡ top w - a
not_turns w a h =
    omega (arith, shared w a (top w) h (omega arith), and_le_l a (top w), and_le_l (top w - a) (top w), xor_add_and a (top w))

digit_back : (p q : ℕ) → p < 2 → q < 2 → differ (bit_xor p q) q ≡ p
digit_back zero zero h l = refl
digit_back zero (suc zero) h l = refl
digit_back (suc zero) zero h l = refl
digit_back (suc zero) (suc zero) h l = refl
digit_back zero (suc (suc q)) h l = absurd (omega arith)
digit_back (suc zero) (suc (suc q)) h l = absurd (omega arith)
digit_back (suc (suc p)) q h l = absurd (omega arith)

pub xor_back : (a b : ℕ) → bit_xor (bit_xor a b) b ≡ a
xor_back =
    bin_ind (λ (n : ℕ). (b : ℕ) → bit_xor (bit_xor n b) b ≡ n) xor_self
    (λ n ih b.
    xor_step (bit_xor n b) b
    ∙ ap₂ (λ (p q : ℕ). bit_xor p (b / 2) * 2 + differ q (b % 2)) (xor_shr n b 1) (xor_mod n b 1)
    ∙ ap₂ (λ (p q : ℕ). p * 2 + q) (ih (b / 2)) (digit_back (n % 2) (b % 2) (mod-lt n (omega arith)) (mod-lt b (omega arith)))
    ∙ div-add-mod' n 2)

pub xor_back_left : (a b : ℕ) → bit_xor (bit_xor a b) a ≡ b
xor_back_left a b = ap (λ (n : ℕ). bit_xor n a) (xor_comm a b) ∙ xor_back b a
