-- A word and its turn share out the bits of any other word: each bit stands in just one of the two. By halves, since the turn of
-- a word is the turn of its half with the other last bit. Assumes nothing.
use Rattle.std.proofs.Common.{◌≡◌, ℕ, zero, suc, ◌+◌, ◌-◌, ◌*◌, ◌/◌, ◌%◌, ◌≤◌, min, ◌∙◌, ap₂, arith}
use native.Mathlib.Nat.{two-pow-succ}
use lib.Bits.{bit_and, and_le_r, and_step}
use Rattle.word.specs.Word.{top}
use Rattle.word.proofs.Widths.{top-suc}

-- the bits of b, shared out between a and its turn
pub shared : (w a b : ℕ) → a ≤ top w → b ≤ top w → bit_and a b + bit_and (top w - a) b ≡ b
shared zero a b h l = omega (arith, top-suc 0, and_le_r a b, and_le_r (top 0 - a) b)
shared (suc w) a b h l =
    omega (
      arith,
      shared w (a / 2) (b / 2) (omega (arith, double)) (omega (arith, double)),
      and_step a b,
      and_step (top (suc w) - a) b ∙ ap₂ (λ (p q : ℕ). bit_and p (b / 2) * 2 + min q (b % 2)) half odd,
    )
  where
    double : top (suc w) ≡ top w + top w + 1
    double = omega (arith, top-suc w, top-suc (suc w), two-pow-succ w)

    half : (top (suc w) - a) / 2 ≡ top w - a / 2
    half = omega (arith, double)

    odd : (top (suc w) - a) % 2 ≡ 1 - a % 2
    odd = omega (arith, double)
