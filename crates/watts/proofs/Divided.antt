-- Digits counted in grains give the nearest pattern: with the digits doubled s times and the power of ten d times, whole grains and a rest
-- are the digits, so what is left under the pattern is the rest and what lacks to the next one the grain without it, both times one
-- power of two. Assumes nothing.
use mathlib.Core.Path.{◌≡◌, sym, ap, ap₂, ◌∙◌}
use Prim.Native.Nat.{ℕ, ◌+◌, ◌-◌, ◌*◌, ◌^◌, ◌≤◌, ◌<◌}
use native.Mathlib.Nat.{add-mul, mul_assoc, mul_comm, mul-le-mul_right, mul-lt-mul_of_pos_right}
use native.Mathlib.Decide.{dec_lt}
use native.Mathlib.Omega.{arith}
use lib.Dec.{ltb}
use lib.Pow.{pow-add, pow_pos}
use borrow.Author.Tests.{le-ltb, lt-ltb}
use Rattle.gate.specs.Value.{exponent, fraction, magnitude}
use Rattle.watts.specs.Watts.{nearer, pattern, scaled, worth}
use Rattle.watts.proofs.Worth.{pattern_at, some, worth_at}

-- how two numbers compare stays where both are multiplied
ltb_times : (a b w : ℕ) → 0 < w → ltb (a * w) (b * w) ≡ ltb a b
ltb_times a b w h = go (dec_lt a b)
  where
    go : Dec (a < b) → ltb (a * w) (b * w) ≡ ltb a b
    go (yes l) = lt-ltb (a * w) (b * w) (mul-lt-mul_of_pos_right l h) ∙ sym (lt-ltb a b l)
    go (no l) = le-ltb (a * w) (b * w) (mul-le-mul_right w (omega arith)) ∙ sym (le-ltb a b (omega arith))

nearer_times : (a b w p : ℕ) → 0 < w → nearer (a * w) (b * w) p ≡ nearer a b p
unfolding nearer
nearer_times a b w p h = rw (ltb_times a b w h, ltb_times b a w h)

nearer_stays : (under over p : ℕ) → under < over → nearer under over p ≡ p
unfolding nearer
nearer_stays u o p h = rw (lt-ltb u o h)

-- zero is the pattern 0, and the next is above it
pub pattern_zero : (places : ℕ) → pattern 0 places ≡ 0
unfolding scaled worth exponent fraction magnitude
pattern_zero places = pattern_at 0 places 0 (omega arith) (omega arith) high ∙ nearer_stays (0 - 0 * 10 ^ places) (1 * 10 ^ places - 0) 0 (omega (arith, high))
  where
    high : 0 < 1 * 10 ^ places
    high = omega (arith, some 0 places)

module _ (digits places size d s whole rest : ℕ)
    (doubled : size ≡ 10 ^ places * 2 ^ d)
    (divided : whole * size + rest ≡ digits * 2 ^ s)
    (left : rest < size)
    (low : 2 ^ 23 ≤ whole)
    (high : whole < 2 ^ 24)
    (turns : s ≤ 64)
    (few : d ≤ 41) where
  abbrev T : ℕ
  T = 10 ^ places

  abbrev w : ℕ
  w = 2 ^ (149 - s)

  abbrev e : ℕ
  e = 149 + d - s

  -- a grain is what lies between two patterns
  grid : T * 2 ^ e ≡ size * w
  grid =
      let k : 149 + d - s ≡ d + (149 - s) = omega arith in
      ap (λ (n : ℕ). T * 2 ^ n) k ∙ ap (λ (n : ℕ). T * n) (pow-add 2 d (149 - s)) ∙ sym (mul_assoc T (2 ^ d) w) ∙ ap (λ (n : ℕ). n * w) (sym doubled)

  at : (m : ℕ) → 2 ^ 23 ≤ m → m ≤ 2 ^ 24 → worth (e * 2 ^ 23 + m) * T ≡ m * (size * w)
  at m l h =
      ap (λ (n : ℕ). n * T) (worth_at e m (omega arith) l h)
      ∙ mul_assoc m (2 ^ e) T
      ∙ ap (λ (n : ℕ). m * n) (mul_comm (2 ^ e) T ∙ grid)

  exact : scaled digits ≡ whole * (size * w) + rest * w
  unfolding scaled
  exact =
      let k : 149 ≡ s + (149 - s) = omega arith in
      ap (λ (n : ℕ). digits * 2 ^ n) k
      ∙ ap (λ (n : ℕ). digits * n) (pow-add 2 s (149 - s))
      ∙ sym (mul_assoc digits (2 ^ s) w)
      ∙ ap (λ (n : ℕ). n * w) (sym divided)
      ∙ add-mul (whole * size) rest w
      ∙ ap (λ (n : ℕ). n + rest * w) (mul_assoc whole size w)

  abbrev p : ℕ
  p = e * 2 ^ 23 + whole

  pub pattern_is : pattern digits places ≡ nearer rest (size - rest) p
  pattern_is =
      pattern_at digits places p (omega arith) (omega (arith, here, exact)) (omega (arith, next, exact, split, over))
      ∙ ap₂ (λ (a b : ℕ). nearer a b p) (omega (arith, here, exact)) (omega (arith, next, exact, split))
      ∙ nearer_times rest (size - rest) w p (pow_pos (149 - s))
    where
      here : worth p * T ≡ whole * (size * w)
      here = at whole low (omega arith)

      next : worth (p + 1) * T ≡ whole * (size * w) + size * w
      next =
          let k : p + 1 ≡ e * 2 ^ 23 + (whole + 1) = omega arith in
          ap (λ (n : ℕ). worth n * T) k ∙ at (whole + 1) (omega arith) (omega arith) ∙ add-mul whole 1 (size * w) ∙ omega arith

      split : size * w ≡ rest * w + (size - rest) * w
      split = let k : size ≡ rest + (size - rest) = omega arith in ap (λ (n : ℕ). n * w) k ∙ add-mul rest (size - rest) w

      over : rest * w < size * w
      over = mul-lt-mul_of_pos_right left (pow_pos (149 - s))
