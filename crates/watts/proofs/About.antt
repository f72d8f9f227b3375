-- The search finds the last pattern that is at most the fraction, and the next is above it: zero is at most every fraction, and digits below
-- 2^64 are far below the largest finite number. Assumes nothing.
use mathlib.Core.Path.{◌≡◌, refl}
use mathlib.Core.Bool.{Bool, true}
use Prim.Native.Nat.{ℕ, ◌+◌, ◌*◌, ◌^◌, ◌≤◌, ◌<◌}
use native.Mathlib.Nat.{le-mul_of_pos_right, le_trans, lt_of_lt_of_le, mul-lt-mul_of_pos_right}
use native.Mathlib.Decide.{dec_lt}
use native.Mathlib.Omega.{arith}
use lib.Dec.{leb}
use lib.Pow.{pow_pos}
use borrow.Author.Tests.{le-leb, leb-false, leb-true}
use Rattle.std.specs.Prelude.{Option}
use Rattle.std.specs.Prelude.{Some, None}
use Rattle.word.specs.Search.{last}
use Rattle.word.proofs.Searched.{last_is, last_nothing}
use Rattle.gate.specs.Value.{exponent, fraction, magnitude}
use Rattle.watts.specs.Watts.{INFINITY, below, scaled, worth}
use Rattle.watts.proofs.Worth.{some}

module _ (digits places : ℕ) where
  abbrev N : ℕ
  N = scaled digits

  abbrev T : ℕ
  T = 10 ^ places

  -- p is at most the fraction, the next is above it, and both are finite
  pub record About (p : ℕ) : Type 0 where
    pub found : below digits places ≡ p
    pub finite : p + 1 < INFINITY
    pub low : worth p * T ≤ N
    pub high : N < worth (p + 1) * T

  at_most : ℕ → Bool
  at_most p = leb (worth p * T) N

  -- the fraction is below the largest finite number
  largest : digits < 2 ^ 64 → N < worth 0x7f7fffff * T
  unfolding scaled worth exponent fraction magnitude
  largest small =
      lt_of_lt_of_le (mul-lt-mul_of_pos_right small (pow_pos 149))
      (le_trans (leb-true (2 ^ 64 * 2 ^ 149) (worth 0x7f7fffff) refl) (le-mul_of_pos_right {m = T} (worth 0x7f7fffff) (some digits places)))

  next_finite : digits < 2 ^ 64 → (p : ℕ) → p < INFINITY → worth p * T ≤ N → p + 1 < INFINITY
  next_finite small p h l = go (dec_lt (p + 1) INFINITY)
    where
      go : Dec (p + 1 < INFINITY) → p + 1 < INFINITY
      go (yes k) = k
      go (no k) =
          let e : p ≡ 0x7f7fffff = omega arith in
          let m : worth 0x7f7fffff * T ≤ N = rw e at l in
          absurd (omega (arith, largest small))

  lowest : at_most 0 ≡ true
  unfolding at_most worth exponent fraction magnitude
  lowest = le-leb (0 * T) N (omega arith)

  pub about : digits < 2 ^ 64 → (p : ℕ) × About p
  unfolding at_most below
  about small = go (last at_most INFINITY) refl
    where
      go : (f : Option ℕ) → last at_most INFINITY ≡ f → (p : ℕ) × About p
      go (Some p) e =
          let l = last_is at_most INFINITY p e in
          let low = leb-true (worth p * T) N l.passes in
          let k = next_finite small p l.high low in
          (p, record { found = rw (e, below); finite = k; low = low; high = leb-false (worth (p + 1) * T) N (l.none_after (p + 1) (omega arith) k) })
      go None e = let z : ◌≡◌ {A = ℕ} 0 1 = cc (lowest, last_nothing at_most INFINITY e 0 (omega arith)) in absurd (omega arith)
