-- What patterns are worth: it rises with the pattern, 2^23 patterns an exponent, and so a search for the last that is at most a fraction
-- ends where one is and the next is not. Assumes nothing.
use mathlib.Core.Path.{◌≡◌, ap, ap₂, ◌∙◌}
use mathlib.Core.Bool.{Bool}
use Prim.Native.Nat.{ℕ, suc, ◌+◌, ◌-◌, ◌*◌, ◌/◌, ◌%◌, ◌^◌, ◌≤◌, ◌<◌}
use native.Mathlib.Nat.{mul-lt-mul_of_pos_right, one-le-pow, two-pow-succ}
use native.Mathlib.Decide.{dec_lt}
use native.Mathlib.Omega.{arith}
use lib.Dec.{leb}
use borrow.Author.Tests.{le-leb, lt-leb}
use Rattle.word.proofs.Search.{last_at}
use Rattle.gate.specs.Value.{exponent, fraction, magnitude}
use Rattle.gate.proofs.Magnitude.{mag, mag_rises}
use Rattle.watts.specs.Watts.{INFINITY, below, nearer, pattern, scaled, worth}

-- without a sign
plain : (p : ℕ) → p < 2 ^ 31 → worth p ≡ mag p
unfolding worth exponent fraction
plain p h = let e : p % 2 ^ 31 ≡ p = omega arith in rw e

pub worth_rises : (p q : ℕ) → p < q → q < 2 ^ 31 → worth p < worth q
worth_rises p q h k = omega (arith, plain p (omega arith), plain q k, mag_rises p q h)

-- as a whole number, doubled for each exponent
pub worth_at : (e m : ℕ) → e < 254 → 2 ^ 23 ≤ m → m ≤ 2 ^ 24 → worth (e * 2 ^ 23 + m) ≡ m * 2 ^ e
unfolding magnitude
worth_at e m h low high = plain (e * 2 ^ 23 + m) (omega arith) ∙ go (dec_lt m (2 ^ 24))
  where
    go : Dec (m < 2 ^ 24) → mag (e * 2 ^ 23 + m) ≡ m * 2 ^ e
    go (yes l) =
        let q : (e * 2 ^ 23 + m) / 2 ^ 23 ≡ suc e = omega arith in
        let r : (e * 2 ^ 23 + m) % 2 ^ 23 ≡ m - 2 ^ 23 = omega arith in
        let k : 2 ^ 23 + (m - 2 ^ 23) ≡ m = omega arith in
        ap₂ magnitude q r ∙ ap (λ (n : ℕ). n * 2 ^ e) k
    go (no l) =
        let q : (e * 2 ^ 23 + m) / 2 ^ 23 ≡ suc (suc e) = omega arith in
        let r : (e * 2 ^ 23 + m) % 2 ^ 23 ≡ 0 = omega arith in
        let k : m ≡ 2 ^ 24 = omega arith in
        ap₂ magnitude q r ∙ rw k (omega (arith, two-pow-succ e))

-- and below 2^23 as itself
pub worth_low : (m : ℕ) → m < 2 ^ 23 → worth m ≡ m
unfolding magnitude
worth_low m h =
    let q : m / 2 ^ 23 ≡ 0 = omega arith in
    let r : m % 2 ^ 23 ≡ m = omega arith in
    plain m (omega arith) ∙ ap₂ magnitude q r

module _ (digits places : ℕ) where
  abbrev N : ℕ
  N = scaled digits

  abbrev T : ℕ
  T = 10 ^ places

  pub some : 0 < T
  some = one-le-pow places 10 (omega arith)

  -- 10^places times what a pattern is worth
  pub times_rises : (p q : ℕ) → p < q → q < 2 ^ 31 → worth p * T < worth q * T
  times_rises p q h k = mul-lt-mul_of_pos_right (worth_rises p q h k) some

  below_at : (p : ℕ) → p < INFINITY → worth p * T ≤ N → N < worth (p + 1) * T → below digits places ≡ p
  unfolding below
  below_at p h low high = rw (last_at at_most INFINITY p h (le-leb (worth p * T) N low) (λ y a b. lt-leb (worth y * T) N (above y a b (dec_lt (p + 1) y))), below)
    where
      at_most : ℕ → Bool
      at_most p = leb (worth p * T) N

      above : (y : ℕ) → p < y → y < INFINITY → Dec (p + 1 < y) → N < worth y * T
      above y a b (yes l) = omega (arith, times_rises (p + 1) y l (omega arith))
      above y a b (no l) = let e : y ≡ p + 1 = omega arith in rw e high

  pub pattern_at : (p : ℕ) → p < INFINITY → worth p * T ≤ N → N < worth (p + 1) * T
      → pattern digits places ≡ nearer (N - worth p * T) (worth (p + 1) * T - N) p
  unfolding pattern
  pattern_at p h low high = rw (below_at p h low high)
