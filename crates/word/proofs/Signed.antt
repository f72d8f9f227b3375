-- The signed reading: below half a word reads as itself, from half on as itself less 2^w, so that the top word reads
-- as -1 and half as the least number. Adding half turns the signed order into the plain one. Assumes nothing.
use Rattle.std.proofs.Common.{◌≡◌, ℕ, zero, suc, ◌+◌, ◌-◌, ◌<◌, ◌≤◌, Bool, cond, leb, pos, negsuc, ◌-ℤ◌, sym, refl, ap, ◌∙◌, ap₂, ⊎_elim, zero-add, arith, le-ltb, lt-ltb, le-leb}
use native.Mathlib.Nat.{sub_self, suc-sub-suc}
use native.Mathlib.Decide.{dec_lt}
use borrow.Author.Tests.{lt-leb}
use lib.Signed.{le_z}
use Rattle.word.specs.Word.{top, half, plus, signed}
use Rattle.word.proofs.Sums.{plus_cases}
use Rattle.word.proofs.Tests.{leb_same}
use Rattle.word.proofs.Widths.{top-suc, halves, half_pos}

pub low : (w a : ℕ) → a < half w → signed w a ≡ pos a
unfolding signed
low w a h = rw (lt-ltb a (half w) h)

less : (a t : ℕ) → a ≤ t → pos a -ℤ pos (suc t) ≡ negsuc (t - a)
less a t h = ap (λ (b : Bool). cond b (negsuc (suc t - suc a)) (pos (a - suc t))) (lt-ltb a (suc t) (omega arith)) ∙ ap negsuc (suc-sub-suc t a)

pub high : (w a : ℕ) → half w ≤ a → a ≤ top w → signed w a ≡ negsuc (top w - a)
unfolding signed
high w a l h = rw (le-ltb a (half w) l, ← top-suc w) (less a (top w) h)

-- how the code counts down from -1
pub below_zero : (d : ℕ) → negsuc 0 -ℤ pos d ≡ negsuc d
below_zero zero = refl
below_zero (suc d) = ap (λ (n : ℕ). negsuc (suc n)) (zero-add d)

-- at the top word
pub top_reads : (w : ℕ) → 1 ≤ w → signed w (top w) ≡ negsuc 0
top_reads w h = high w (top w) (omega (arith, halves w h, half_pos w)) (omega arith) ∙ ap negsuc (sub_self (top w))

-- at half, and at the word before it: minus half, and half less one
pub half_reads : (w : ℕ) → 1 ≤ w → (signed w (half w) ≡ negsuc (half w - 1)) × (signed w (half w - 1) ≡ pos (half w - 1))
half_reads w h =
    let e : top w - half w ≡ half w - 1 = omega (arith, halves w h, half_pos w) in
    (high w (half w) (omega arith) (omega (arith, halves w h, half_pos w)) ∙ ap negsuc e, low w (half w - 1) (omega (arith, half_pos w)))

module _ (w : ℕ) (width : 1 ≤ w) where
  raised_low : (a : ℕ) → a < half w → plus w (half w) a ≡ half w + a
  raised_low a l =
      ⊎_elim (λ c. c.1) (λ c. absurd (omega (arith, halves w width))) (plus_cases w (half w) a (omega (arith, halves w width)) (omega (arith, halves w width)))

  raised_high : (a : ℕ) → half w ≤ a → a ≤ top w → plus w (half w) a ≡ a - half w
  raised_high a l h =
      ⊎_elim (λ c. absurd (omega (arith, halves w width))) (λ c. omega (arith, halves w width)) (plus_cases w (half w) a (omega (arith, halves w width, half_pos w)) h)

  -- the signed order is the plain one, half a turn further
  pub order : (a b : ℕ) → a ≤ top w → b ≤ top w → le_z (signed w a) (signed w b) ≡ leb (plus w (half w) a) (plus w (half w) b)
  order a b ha hb = go (dec_lt a (half w)) (dec_lt b (half w))
    where
      H : ℕ
      H = half w

      go : Dec (a < half w) → Dec (b < half w) → le_z (signed w a) (signed w b) ≡ leb (plus w H a) (plus w H b)
      go (yes p) (yes q) =
          ap₂ le_z (low w a p) (low w b q)
          ∙ leb_same a b (H + a) (H + b) (omega arith) (omega arith)
          ∙ sym (ap₂ leb (raised_low a p) (raised_low b q))
      go (yes p) (no q) =
          ap₂ le_z (low w a p) (high w b (omega arith) hb)
          ∙ sym (lt-leb (H + a) (b - H) (omega (arith, halves w width)))
          ∙ sym (ap₂ leb (raised_low a p) (raised_high b (omega arith) hb))
      go (no p) (yes q) =
          ap₂ le_z (high w a (omega arith) ha) (low w b q)
          ∙ sym (le-leb (a - H) (H + b) (omega (arith, halves w width)))
          ∙ sym (ap₂ leb (raised_high a (omega arith) ha) (raised_low b q))
      go (no p) (no q) =
          ap₂ le_z (high w a (omega arith) ha) (high w b (omega arith) hb)
          ∙ leb_same (top w - b) (top w - a) (a - H) (b - H) (omega arith) (omega arith)
          ∙ sym (ap₂ leb (raised_high a (omega arith) ha) (raised_high b (omega arith) hb))
