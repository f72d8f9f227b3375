-- What a search says when it has ended: a word found passes and none before it does, and where nothing is found none
-- passes. By induction on the words left. Assumes nothing.
use Rattle.std.proofs.Common.{◌≡◌, ℕ, zero, suc, ◌+◌, ◌<◌, ◌≤◌, Bool, true, false, sym, refl, ap, ◌∙◌, arith}
use native.Mathlib.Decide.{ℕ_discrete}
use Rattle.std.specs.Prelude.{Option}
use Rattle.std.specs.Prelude.{Some, None}
use Rattle.word.specs.Search.{first, last}

module _ (f : ℕ → Bool) where
  -- x is the first of k words from p that passes
  pub record First (k p x : ℕ) : Type 0 where
    pub low : p ≤ x
    pub high : x < p + k
    pub passes : f x ≡ true
    pub none_before : (y : ℕ) → p ≤ y → y < x → f y ≡ false

  -- x is the last word below k that passes
  pub record Last (k x : ℕ) : Type 0 where
    pub high : x < k
    pub passes : f x ≡ true
    pub none_after : (y : ℕ) → x < y → y < k → f y ≡ false

  pub first_is : (k p x : ℕ) → first f k p ≡ Some x → First k p x
  unfolding first
  first_is zero p x e = let z : ◌≡◌ {A = ℕ} 0 1 = cc in absurd (omega arith)
  first_is (suc k) p x e = go (f p) refl e (first_is k (suc p) x)
    where
      go : (s : Bool) → f p ≡ s → elim s as (λ (b : Bool). Option ℕ) [ true ↦ Some p | false ↦ first f k (suc p) ] ≡ Some x
          → (first f k (suc p) ≡ Some x → First k (suc p) x) → First (suc k) p x
      go true t e later =
          let q : p ≡ x = cc in
          record { low = omega arith; high = omega arith; passes = ap f (sym q) ∙ t; none_before = λ y a b. absurd (omega arith) }
      go false t e later =
          let r = later e in
          record { low = omega (arith, r.low); high = omega (arith, r.high); passes = r.passes; none_before = λ y a b. before y a (ℕ_discrete y p) (λ h. r.none_before y h b) }
        where
          before : (y : ℕ) → p ≤ y → Dec (y ≡ p) → (suc p ≤ y → f y ≡ false) → f y ≡ false
          before y a (yes h) rest = ap f h ∙ t
          before y a (no h) rest = rest (omega arith)

  pub first_nothing : (k p : ℕ) → first f k p ≡ None → (y : ℕ) → p ≤ y → y < p + k → f y ≡ false
  unfolding first
  first_nothing zero p e y a b = absurd (omega arith)
  first_nothing (suc k) p e y a b = go (f p) refl e (first_nothing k (suc p))
    where
      go : (s : Bool) → f p ≡ s → elim s as (λ (b : Bool). Option ℕ) [ true ↦ Some p | false ↦ first f k (suc p) ] ≡ None
          → (first f k (suc p) ≡ None → (z : ℕ) → suc p ≤ z → z < suc p + k → f z ≡ false) → f y ≡ false
      go true t e later = let z : ◌≡◌ {A = ℕ} 0 1 = cc in absurd (omega arith)
      go false t e later = here (ℕ_discrete y p)
        where
          here : Dec (y ≡ p) → f y ≡ false
          here (yes h) = ap f h ∙ t
          here (no h) = later e y (omega arith) (omega arith)

  pub last_is : (k x : ℕ) → last f k ≡ Some x → Last k x
  unfolding last
  last_is zero x e = let z : ◌≡◌ {A = ℕ} 0 1 = cc in absurd (omega arith)
  last_is (suc k) x e = go (f k) refl e (last_is k x)
    where
      go : (s : Bool) → f k ≡ s → elim s as (λ (b : Bool). Option ℕ) [ true ↦ Some k | false ↦ last f k ] ≡ Some x
          → (last f k ≡ Some x → Last k x) → Last (suc k) x
      go true t e later =
          let q : k ≡ x = cc in
          record { high = omega arith; passes = ap f (sym q) ∙ t; none_after = λ y a b. absurd (omega arith) }
      go false t e later =
          let r = later e in
          record { high = omega (arith, r.high); passes = r.passes; none_after = λ y a b. after y b (ℕ_discrete y k) (λ h. r.none_after y a h) }
        where
          after : (y : ℕ) → y < suc k → Dec (y ≡ k) → (y < k → f y ≡ false) → f y ≡ false
          after y b (yes h) rest = ap f h ∙ t
          after y b (no h) rest = rest (omega arith)

  pub last_nothing : (k : ℕ) → last f k ≡ None → (y : ℕ) → y < k → f y ≡ false
  unfolding last
  last_nothing zero e y b = absurd (omega arith)
  last_nothing (suc k) e y b = go (f k) refl e (last_nothing k)
    where
      go : (s : Bool) → f k ≡ s → elim s as (λ (b : Bool). Option ℕ) [ true ↦ Some k | false ↦ last f k ] ≡ None
          → (last f k ≡ None → (z : ℕ) → z < k → f z ≡ false) → f y ≡ false
      go true t e later = let z : ◌≡◌ {A = ℕ} 0 1 = cc in absurd (omega arith)
      go false t e later = here (ℕ_discrete y k)
        where
          here : Dec (y ≡ k) → f y ≡ false
          here (yes h) = ap f h ∙ t
          here (no h) = later e y (omega arith)
