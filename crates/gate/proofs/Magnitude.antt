-- The magnitude of a finite value grows with its bits: an exponent's magnitudes lie below 2^23 * 2^exponent, and the next one's start
-- there. Assumes nothing.
use mathlib.Core.Path.{◌≡◌, refl, sym, ◌∙◌}
use Prim.Native.Nat.{ℕ, zero, suc, ◌+◌, ◌*◌, ◌/◌, ◌%◌, ◌^◌, ◌≤◌, ◌<◌}
use native.Mathlib.Nat.{add-mul, mul-lt-mul_of_pos_right, two-pow-succ}
use native.Mathlib.Decide.{dec_le, dec_lt}
use native.Mathlib.Omega.{arith}
use lib.Dec.{eqb, eqb-suc-zero, leb}
use lib.Pow.{pow_mono, pow_pos}
use borrow.Author.Tests.{ne_eqb}
use Rattle.word.proofs.Tests.{leb_same}
use Rattle.gate.specs.Value.{magnitude}

-- the magnitude of a pattern without its sign
abbrev pub mag : ℕ → ℕ
mag m = magnitude (m / 2 ^ 23) (m % 2 ^ 23)

starts : (e f : ℕ) → 2 ^ 23 * 2 ^ e ≤ magnitude (suc e) f
unfolding magnitude
starts e f = omega (arith, add-mul (2 ^ 23) f (2 ^ e))

ends : (e f : ℕ) → f < 2 ^ 23 → magnitude e f < 2 ^ 23 * 2 ^ e
unfolding magnitude
ends zero f h = omega arith
ends (suc e) f h = omega (arith, add-mul (2 ^ 23) f (2 ^ e), mul-lt-mul_of_pos_right h (pow_pos e), two-pow-succ e)

grows : (e f g : ℕ) → f < g → magnitude e f < magnitude e g
unfolding magnitude
grows zero f g h = h
grows (suc e) f g h = mul-lt-mul_of_pos_right (omega arith) (pow_pos e)

rises : (e f d g : ℕ) → f < 2 ^ 23 → g < 2 ^ 23 → e * 2 ^ 23 + f < d * 2 ^ 23 + g → magnitude e f < magnitude d g
rises e f zero g hf hg h = here e (omega arith)
  where
    here : (e : ℕ) → e ≡ 0 → magnitude e f < magnitude 0 g
    here zero z = grows 0 f g (omega arith)
    here (suc e) z = absurd (omega arith)
rises e f (suc d) g hf hg h = go (dec_le e d)
  where
    go : Dec (e ≤ d) → magnitude e f < magnitude (suc d) g
    go (yes l) = omega (arith, ends e f hf, starts d g, pow_mono {i = e} {j = d} l)
    go (no n) = let q : e ≡ suc d = omega arith in rw q (grows (suc d) f g (omega arith))

pub mag_rises : (m n : ℕ) → m < n → mag m < mag n
mag_rises m n h = rises (m / 2 ^ 23) (m % 2 ^ 23) (n / 2 ^ 23) (n % 2 ^ 23) (omega arith) (omega arith) (omega arith)

mag_keeps : (m n : ℕ) → m ≤ n → mag m ≤ mag n
mag_keeps m n h = go (dec_lt m n)
  where
    go : Dec (m < n) → mag m ≤ mag n
    go (yes l) = omega (arith, mag_rises m n l)
    go (no l) = let e : m ≡ n = omega arith in rw e (omega arith)

pub mag_order : (m n : ℕ) → leb (mag m) (mag n) ≡ leb m n
mag_order m n = leb_same (mag m) (mag n) m n back (mag_keeps m n)
  where
    back : mag m ≤ mag n → m ≤ n
    back h = go (dec_le m n)
      where
        go : Dec (m ≤ n) → m ≤ n
        go (yes l) = l
        go (no l) = absurd (omega (arith, mag_rises n m (omega arith)))

pub mag_zero : (m : ℕ) → eqb (mag m) 0 ≡ eqb m 0
unfolding magnitude
mag_zero zero = refl
mag_zero (suc m) = ne_eqb (mag (suc m)) 0 (λ e. omega (arith, mag_rises 0 (suc m) (omega arith))) ∙ sym (eqb-suc-zero m)
