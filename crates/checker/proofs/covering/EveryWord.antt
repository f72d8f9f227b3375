-- "Every word" said by search is every word: by induction on the words left. So the next word that a search finds tells whether every
-- word of a link misses. Assumes nothing.
use mathlib.Core.Path.{◌≡◌, refl, sym, ap, ◌∙◌}
use mathlib.Core.Bool.{Bool, true, false, false≢true, not}
use Prim.Native.Nat.{ℕ, zero, suc, ◌+◌, ◌-◌, ◌≤◌, ◌<◌}
use native.Mathlib.Nat.{le_refl}
use native.Mathlib.Decide.{dec_lt, ℕ_discrete}
use native.Mathlib.Omega.{arith}
use borrow.Author.Tests.{lt-ltb, ltb-true, not-true}
use lib.Dec.{ltb}
use Rattle.std.specs.Prelude.{Some, None}
use Rattle.word.specs.Search.{first}
use Rattle.word.proofs.Searched.{First, first_is, first_nothing}
use Rattle.word.proofs.Tests.{both_pass, same_test}
use Rattle.checker.specs.covering.Check.{all_of, every_word}

module _ (f : ℕ → Bool) where
  all_each : (k p : ℕ) → all_of f k p ≡ true → (x : ℕ) → p ≤ x → x < p + k → f x ≡ true
  unfolding all_of
  all_each zero p e x a b = absurd (omega arith)
  all_each (suc k) p e x a b =
      let t = both_pass (f p) (all_of f k (suc p)) e in
      go (ℕ_discrete x p) t.0 (λ h. all_each k (suc p) t.1 x h (omega arith))
    where
      go : Dec (x ≡ p) → f p ≡ true → (suc p ≤ x → f x ≡ true) → f x ≡ true
      go (yes h) here later = ap f h ∙ here
      go (no h) here later = later (omega arith)

  each_all : (k p : ℕ) → ((x : ℕ) → p ≤ x → x < p + k → f x ≡ true) → all_of f k p ≡ true
  unfolding all_of
  each_all zero p h = refl
  each_all (suc k) p h =
      rw (h p (le_refl p) (omega arith), all_of) (each_all k (suc p) (λ x a b. h x (omega arith) (omega arith)))

  module _ (a b : ℕ) where
    pub every_each : every_word f a b ≡ true → (x : ℕ) → a ≤ x → x ≤ b → f x ≡ true
    unfolding every_word
    every_each e x l h = all_each (suc b - a) a e x l (omega arith)

    pub each_every : ((x : ℕ) → a ≤ x → x ≤ b → f x ≡ true) → every_word f a b ≡ true
    unfolding every_word
    each_every h = each_all (suc b - a) a (λ x l u. h x l (omega arith))

-- two tests that agree on these words
pub every_same : (f g : ℕ → Bool) (a b : ℕ) → ((x : ℕ) → a ≤ x → x ≤ b → f x ≡ g x) → every_word f a b ≡ every_word g a b
every_same f g a b h =
    same_test _ _ (λ e. each_every g a b (λ x l u. sym (h x l u) ∙ every_each f a b e x l u))
    (λ e. each_every f a b (λ x l u. h x l u ∙ every_each g a b e x l u))

-- every word from p to q misses
module _ (f : ℕ → Bool) (p q : ℕ) where
  abbrev pub misses : Bool
  misses = every_word (λ (x : ℕ). not (f x)) p q

  missed : misses ≡ true → (x : ℕ) → p ≤ x → x ≤ q → f x ≡ false
  missed e x a b = not-true (f x) (every_each (λ (y : ℕ). not (f y)) p q e x a b)

  misses_all : ((x : ℕ) → p ≤ x → x ≤ q → f x ≡ false) → misses ≡ true
  misses_all h = each_every (λ (y : ℕ). not (f y)) p q (λ x a b. ap not (h x a b))

  pub first_passes : p ≤ q → f p ≡ true → false ≡ misses
  first_passes h t =
      same_test false misses (λ e. absurd (false≢true e)) (λ e. absurd (false≢true (sym (missed e p (le_refl p) h) ∙ t)))

  -- the next word that passes comes after, or there is none
  pub next_after : (k x : ℕ) → first f k p ≡ Some x → ltb q x ≡ misses
  next_after k x e =
      let i = first_is f k p x e in
      same_test _ misses (λ d. misses_all (λ y a b. i.none_before y a (omega (arith, ltb-true q x d))))
      (λ d. lt-ltb q x (after i d (dec_lt q x)))
    where
      after : First f k p x → misses ≡ true → Dec (q < x) → q < x
      after i d (yes h) = h
      after i d (no h) = absurd (false≢true (sym (missed d x (omega arith) (omega arith)) ∙ i.passes))

  pub none_after : (t : ℕ) → q ≤ t → first f (suc t - p) p ≡ None → true ≡ misses
  none_after t h e = sym (misses_all (λ x a b. first_nothing f (suc t - p) p e x a (omega arith)))
