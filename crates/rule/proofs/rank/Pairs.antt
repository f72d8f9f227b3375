-- A count by pairs of words. The words of a pair differ in the lowest bit alone, so they have the higher bits both or neither, and a
-- lowest bit that is fixed picks one of them. By induction on the pairs left. Assumes nothing.
use mathlib.Core.Path.{◌≡◌, refl, sym, ap, ap₂, ◌∙◌}
use mathlib.Core.Bool.{Bool, true, false}
use Prim.Native.Nat.{ℕ, zero, suc, ◌+◌, ◌-◌, ◌*◌, ◌/◌, ◌%◌, ◌≤◌}
use native.Mathlib.Nat.{add-mul, zero-mul}
use native.Mathlib.Decide.{ℕ_discrete}
use native.Mathlib.Omega.{arith}
use borrow.Author.Tests.{eq-eqb, ne_eqb}
use lib.Bits.{bit_and, and_step}
use lib.Dec.{eqb}
use Rattle.word.specs.Search.{count}
use Rattle.rule.specs.declared.bits.Fixed.TheVariants.{Bits, Clash}
use Rattle.rule.specs.bits.route.Fixed.{has_bits}

-- a word that passes counts for one
one : Bool → ℕ
one true = 1
one false = 0

module _ (f : ℕ → Bool) where
  count_first : (k p : ℕ) → count f (suc k) p ≡ one (f p) + count f k (suc p)
  unfolding count one
  count_first k p = go (f p) refl
    where
      go : (b : Bool) → f p ≡ b → count f (suc k) p ≡ one (f p) + count f k (suc p)
      go true e = rw (e, count) (omega arith)
      go false e = rw (e, count) (omega arith)

  count_last : (k p : ℕ) → count f (suc k) p ≡ count f k p + one (f (p + k))
  unfolding count
  count_last zero p = let e : p + 0 ≡ p = omega arith in rw e (omega (arith, count_first 0 p))
  count_last (suc k) p =
      let e : suc p + k ≡ p + suc k = omega arith in
      omega (arith, count_first (suc k) p, count_first k p, count_last k (suc p), ap (λ (x : ℕ). one (f x)) e)

  -- at most all of them pass
  pub count_most : (k p : ℕ) → count f k p ≤ k
  unfolding count
  count_most zero p = omega arith
  count_most (suc k) p = go (f p) refl (count_most k (suc p))
    where
      go : (b : Bool) → f p ≡ b → count f k (suc p) ≤ k → count f (suc k) p ≤ suc k
      go true e later = rw (e, count) (omega arith)
      go false e later = rw (e, count) (omega arith)

-- where each pair has n words that pass, or none, as the test g says of the pair
count_pairs : (f g : ℕ → Bool) (n : ℕ) → ((x : ℕ) → one (f (x * 2)) + one (f (x * 2 + 1)) ≡ one (g x) * n)
    → (k p : ℕ) → count f (k * 2) (p * 2) ≡ count g k p * n
unfolding count
count_pairs f g n h zero p = sym (zero-mul n)
count_pairs f g n h (suc k) p =
    let e : suc k * 2 ≡ suc (suc (k * 2)) = omega arith in
    let c : suc (p * 2) ≡ p * 2 + 1 = omega arith in
    let d : suc (suc (p * 2)) ≡ suc p * 2 = omega arith in
    ap (λ (j : ℕ). count f j (p * 2)) e
    ∙ omega (
      arith,
      count_first f (suc (k * 2)) (p * 2),
      count_first f (k * 2) (suc (p * 2)),
      ap (λ (j : ℕ). one (f j)) c,
      ap (count f (k * 2)) d,
      h p,
      count_pairs f g n h k (suc p),
      ap (λ (j : ℕ). j * n) (count_first g k p) ∙ add-mul (one (g p)) (count g k (suc p)) n,
    )

hit : (a b : ℕ) → a ≡ b → one (eqb a b) ≡ 1
unfolding one
hit a b e = rw (eq-eqb a b e)

miss : (a b : ℕ) → (a ≡ b → ⊥) → one (eqb a b) ≡ 0
unfolding one
miss a b n = rw (ne_eqb a b n)

module _ (m v : ℕ) (tidy : bit_and v m ≡ v) where
  pub halved_tidy : bit_and (v / 2) (m / 2) ≡ v / 2
  halved_tidy = omega (arith, and_step v m)

  pair : (x : ℕ) → one (has_bits (Bits m v) (x * 2)) + one (has_bits (Bits m v) (x * 2 + 1)) ≡ one (has_bits (Bits (m / 2) (v / 2)) x) * (2 - m % 2)
  unfolding has_bits
  pair x = go (ℕ_discrete (bit_and x (m / 2)) (v / 2)) (ℕ_discrete (m % 2) 0) (ℕ_discrete (v % 2) 0)
    where
      even : bit_and (x * 2) m ≡ bit_and x (m / 2) * 2
      even = let e : x * 2 / 2 ≡ x = omega arith in omega (arith, rw e at (and_step (x * 2) m))

      odd : bit_and (x * 2 + 1) m ≡ bit_and x (m / 2) * 2 + m % 2
      odd = let e : (x * 2 + 1) / 2 ≡ x = omega arith in omega (arith, rw e at (and_step (x * 2 + 1) m))

      -- what the two words of the pair count for, and the pair by its higher bits
      sum : {a b g : ℕ} → one (eqb (bit_and (x * 2) m) v) ≡ a → one (eqb (bit_and (x * 2 + 1) m) v) ≡ b → one (eqb (bit_and x (m / 2)) (v / 2)) ≡ g
          → a + b ≡ g * (2 - m % 2) → one (eqb (bit_and (x * 2) m) v) + one (eqb (bit_and (x * 2 + 1) m) v) ≡ one (eqb (bit_and x (m / 2)) (v / 2)) * (2 - m % 2)
      sum p q r e = ap₂ ◌+◌ p q ∙ e ∙ ap (λ (n : ℕ). n * (2 - m % 2)) (sym r)

      go : Dec (bit_and x (m / 2) ≡ v / 2) → Dec (m % 2 ≡ 0) → Dec (v % 2 ≡ 0)
          → one (eqb (bit_and (x * 2) m) v) + one (eqb (bit_and (x * 2 + 1) m) v) ≡ one (eqb (bit_and x (m / 2)) (v / 2)) * (2 - m % 2)
      go (no d) b c = sum (miss _ v (λ e. d (omega (arith, even)))) (miss _ v (λ e. d (omega (arith, odd)))) (miss _ _ d) (omega arith)
      go (yes d) (yes b) c = sum (hit _ v (omega (arith, even, and_step v m))) (hit _ v (omega (arith, odd, and_step v m))) (hit _ _ d) (omega arith)
      go (yes d) (no b) (yes c) = sum (hit _ v (omega (arith, even))) (miss _ v (λ e. omega (arith, odd))) (hit _ _ d) (omega arith)
      go (yes d) (no b) (no c) = sum (miss _ v (λ e. omega (arith, even))) (hit _ v (omega (arith, odd))) (hit _ _ d) (omega arith)

  paired : (k : ℕ) → count (has_bits (Bits m v)) (k * 2) 0 ≡ count (has_bits (Bits (m / 2) (v / 2))) k 0 * (2 - m % 2)
  paired k = count_pairs (has_bits (Bits m v)) (has_bits (Bits (m / 2) (v / 2))) (2 - m % 2) pair k 0

  -- below p lie n pairs that have the higher bits, with k words each that have the lowest one too
  module _ (p n k : ℕ) (pairs : n ≡ count (has_bits (Bits (m / 2) (v / 2))) (p / 2) 0) (each : k ≡ 2 - m % 2) where
    all : n * k ≡ count (has_bits (Bits m v)) (p / 2 * 2) 0
    all = ap₂ ◌*◌ pairs each ∙ sym (paired (p / 2))

    pub short : n * k ≤ p
    short = omega (arith, all, count_most (has_bits (Bits m v)) (p / 2 * 2) 0)

    pub even_words : p % 2 ≡ 0 → n * k ≡ count (has_bits (Bits m v)) p 0
    even_words e = let d : p / 2 * 2 ≡ p = omega arith in all ∙ ap (λ (j : ℕ). count (has_bits (Bits m v)) j 0) d

    -- the last word stands alone
    odd_words : p % 2 ≡ 1 → count (has_bits (Bits m v)) p 0 ≡ n * k + one (eqb (bit_and (p - 1) m) v)
    unfolding has_bits
    odd_words e =
        let d : p ≡ suc (p / 2 * 2) = omega arith in
        let l : 0 + p / 2 * 2 ≡ p - 1 = omega arith in
        ap (λ (j : ℕ). count (has_bits (Bits m v)) j 0) d ∙ count_last (has_bits (Bits m v)) (p / 2 * 2) 0
        ∙ ap₂ ◌+◌ (sym all) (ap (λ (j : ℕ). one (has_bits (Bits m v) j)) l)

    pub last_misses : p % 2 ≡ 1 → (bit_and (p - 1) m ≡ v → ⊥) → n * k ≡ count (has_bits (Bits m v)) p 0
    last_misses e d = omega (arith, odd_words e, miss (bit_and (p - 1) m) v d)

    -- and counts for one
    pub last_hits : p % 2 ≡ 1 → bit_and (p - 1) m ≡ v → (j : ℕ) → j ≡ 1 → n * k + j ≡ count (has_bits (Bits m v)) p 0
    last_hits e d j i = omega (arith, odd_words e, hit (bit_and (p - 1) m) v d)

    pub room : p % 2 ≡ 1 → (j : ℕ) → j ≡ 1 → n * k + j ≤ p
    room e j i = omega (arith, all, count_most (has_bits (Bits m v)) (p / 2 * 2) 0)

pub none_clash : (k p : ℕ) → count (has_bits Clash) k p ≡ 0
unfolding count has_bits
none_clash zero p = refl
none_clash (suc k) p = none_clash k (suc p)
