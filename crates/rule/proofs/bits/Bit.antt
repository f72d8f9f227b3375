-- Laws of AND and OR on whole numbers, each decided at one bit, where AND is the lesser and OR the greater of two
-- numbers. Two numbers are equal when their bits are. Assumes nothing.
use mathlib.Core.Path.{◌≡◌, sym, ap, ◌∙◌}
use Prim.Native.Nat.{ℕ, zero, suc, ◌/◌, ◌%◌, ◌^◌, ◌≤◌, min, max}
use native.Mathlib.Numerals.{one-add}
use native.Mathlib.Omega.{arith}
use lib.Arith.{half_le}
use lib.Bits.{bit_and, bit_or, and_step, or_step, and_shr, or_shr}
use lib.Pow.{shr-shr}

bit : ℕ → ℕ → ℕ
bit k n = n / 2 ^ k % 2

bit_and_lem : (k a b : ℕ) → bit k (bit_and a b) ≡ min (bit k a) (bit k b)
unfolding bit
bit_and_lem k a b = ap (λ (n : ℕ). n % 2) (and_shr a b k) ∙ omega (arith, and_step (a / 2 ^ k) (b / 2 ^ k))

bit_or_lem : (k a b : ℕ) → bit k (bit_or a b) ≡ max (bit k a) (bit k b)
unfolding bit
bit_or_lem k a b = ap (λ (n : ℕ). n % 2) (or_shr a b k) ∙ omega (arith, or_step (a / 2 ^ k) (b / 2 ^ k))

bit-suc : (k a : ℕ) → bit (suc k) a ≡ bit k (a / 2)
unfolding bit
bit-suc k a = ap (λ (n : ℕ). n % 2) (ap (λ (j : ℕ). a / 2 ^ j) (sym (one-add k)) ∙ sym (shr-shr a 1 k))

-- n bounds the digits to go
same : (n a b : ℕ) → a ≤ n → b ≤ n → ((k : ℕ) → bit k a ≡ bit k b) → a ≡ b
unfolding bit
same zero a b h l e = omega arith
same (suc n) a b h l e =
    let d : a / 2 ≡ b / 2 = same n (a / 2) (b / 2) (half_le h) (half_le l) (λ k. sym (bit-suc k a) ∙ e (suc k) ∙ bit-suc k b) in
    omega (arith, e 0)

bit_ext : (a b : ℕ) → ((k : ℕ) → bit k a ≡ bit k b) → a ≡ b
bit_ext a b = same (max a b) a b (omega arith) (omega arith)

pub and_twice : (x m : ℕ) → bit_and (bit_and x m) m ≡ bit_and x m
and_twice x m = bit_ext _ _ (λ k. simp bit_and_lem (omega arith))

pub or_twice : (x m : ℕ) → bit_or (bit_or x m) m ≡ bit_or x m
or_twice x m = bit_ext _ _ (λ k. simp bit_or_lem (omega arith))

pub and_swap : (x m c : ℕ) → bit_and (bit_and x m) c ≡ bit_and (bit_and x c) m
and_swap x m c = bit_ext _ _ (λ k. simp bit_and_lem (omega arith))

pub and_both : (x m c : ℕ) → bit_and x (bit_or m c) ≡ bit_or (bit_and x m) (bit_and x c)
and_both x m c = bit_ext _ _ (λ k. simp (bit_and_lem, bit_or_lem) (omega arith))

-- a value in each of two masks is a value in both
pub or_tidy : (m v c d : ℕ) → bit_and v m ≡ v → bit_and d c ≡ d → bit_and (bit_or v d) (bit_or m c) ≡ bit_or v d
or_tidy m v c d e f =
    bit_ext _ _ (λ k. simp (bit_and_lem, bit_or_lem) (omega (arith, simp bit_and_lem at (ap (bit k) e), simp bit_and_lem at (ap (bit k) f))))

-- a word that has two values that agree has the first
pub and_first : (x m v c d : ℕ) → bit_and v m ≡ v → bit_and v c ≡ bit_and d m → bit_and x (bit_or m c) ≡ bit_or v d → bit_and x m ≡ v
and_first x m v c d e f g = bit_ext _ _ (λ k. simp bit_and_lem (at k))
  where
    at : (k : ℕ) → min (bit k x) (bit k m) ≡ bit k v
    at k =
        let h : bit k v ≤ bit k m = omega (arith, simp bit_and_lem at (ap (bit k) e)) in
        omega (arith, simp bit_and_lem at (ap (bit k) f), simp (bit_and_lem, bit_or_lem) at (ap (bit k) g))
