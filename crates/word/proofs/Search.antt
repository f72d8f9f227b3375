-- What a search finds, said of the numbers alone, so that nobody has to open a search over 2^w words: each search stops
-- at the one number that passes (or is the last one allowed) and before which nothing passes. By induction on the words
-- left. Assumes nothing.
use Rattle.std.proofs.Common.{◌≡◌, ℕ, zero, suc, ◌+◌, ◌<◌, ◌≤◌, Bool, true, false, ◌⊎◌, refl, ap, ◌∙◌, inl, inr, ⊎_elim, suc-le-suc, le_refl, arith}
use native.Mathlib.Decide.{dec_lt}
use Rattle.std.specs.Prelude.{Some, None}
use Rattle.word.specs.Search.{first, last, climb, count, sink}

module _ (f : ℕ → Bool) where
  pub first_at : (k p x : ℕ) → p ≤ x → x < p + k → f x ≡ true → ((y : ℕ) → p ≤ y → y < x → f y ≡ false)
      → first f k p ≡ Some x
  unfolding first
  first_at zero p x l h t n = absurd (omega arith)
  first_at (suc k) p x l h t n = go (dec_lt p x) (λ q. first_at k (suc p) x q (omega arith) t (λ y a. n y (omega arith)))
    where
      go : Dec (p < x) → (p < x → first f k (suc p) ≡ Some x) → first f (suc k) p ≡ Some x
      go (yes q) later = rw (n p (omega arith) q, first) (later q)
      go (no q) later = let e : p ≡ x = omega arith in rw (ap f e ∙ t, first) (ap Some e)

  pub first_none : (k p : ℕ) → ((y : ℕ) → p ≤ y → y < p + k → f y ≡ false) → first f k p ≡ None
  unfolding first
  first_none zero p n = refl
  first_none (suc k) p n = rw (n p (omega arith) (omega arith), first) (first_none k (suc p) (λ y a b. n y (omega arith) (omega arith)))

  pub last_at : (k x : ℕ) → x < k → f x ≡ true → ((y : ℕ) → x < y → y < k → f y ≡ false) → last f k ≡ Some x
  unfolding last
  last_at zero x h t n = absurd (omega arith)
  last_at (suc k) x h t n = go (dec_lt x k) (λ q. last_at k x q t (λ y a b. n y a (omega arith)))
    where
      go : Dec (x < k) → (x < k → last f k ≡ Some x) → last f (suc k) ≡ Some x
      go (yes q) later = rw (n k q (omega arith), last) (later q)
      go (no q) later = let e : k ≡ x = omega arith in rw (ap f e ∙ t, last) (ap Some e)

  pub climb_to : (k p q : ℕ) → p ≤ q → q ≤ p + k → ((y : ℕ) → p < y → y ≤ q → f y ≡ false) → (q ≡ p + k) ⊎ (f (suc q) ≡ true)
      → climb f k p ≡ q
  unfolding climb
  climb_to zero p q l h n s = omega arith
  climb_to (suc k) p q l h n s =
      go (dec_lt p q) (λ d. climb_to k (suc p) q d (omega arith) (λ y a. n y (omega arith)) (⊎_elim (λ e. inl (omega arith)) inr s))
    where
      here : p ≡ q → f (suc p) ≡ true
      here e = ⊎_elim (λ t. absurd (omega arith)) (λ t. rw e t) s

      go : Dec (p < q) → (p < q → climb f k (suc p) ≡ q) → climb f (suc k) p ≡ q
      go (yes d) later = rw (n (suc p) (omega arith) d, climb) (later d)
      go (no d) later = let e : p ≡ q = omega arith in rw (here e, climb) e

  pub sink_to : (p q : ℕ) → q ≤ p → ((y : ℕ) → q ≤ y → y < p → f y ≡ false) → (q ≡ 0) ⊎ ((y : ℕ) → suc y ≡ q → f y ≡ true)
      → sink f p ≡ q
  unfolding sink
  sink_to zero q l n s = omega arith
  sink_to (suc p) q l n s = go (dec_lt p q) (λ d. sink_to p q d (λ y a b. n y a (omega arith)) s)
    where
      here : suc p ≡ q → f p ≡ true
      here e = ⊎_elim (λ t. absurd (omega arith)) (λ t. t p e) s

      go : Dec (p < q) → (q ≤ p → sink f p ≡ q) → sink f (suc p) ≡ q
      go (yes d) later = let e : suc p ≡ q = omega arith in rw (here e, sink) e
      go (no d) later = let h : q ≤ p = omega arith in rw (n p h (omega arith), sink) (later h)

  -- what passes at p counts once
  count_here : (k p n : ℕ) → (f p ≡ true → count f k (suc p) ≤ n) → (f p ≡ false → count f k (suc p) ≤ suc n) → count f (suc k) p ≤ suc n
  unfolding count
  count_here k p n hit miss = go (f p) refl
    where
      go : (b : Bool) → f p ≡ b → count f (suc k) p ≤ suc n
      go true e = rw (e, count) (suc-le-suc (hit e))
      go false e = rw (e, count) (miss e)

  count_none : (k p : ℕ) → ((x : ℕ) → p ≤ x → x < p + k → f x ≡ true → ⊥) → count f k p ≤ 0
  unfolding count
  count_none zero p h = le_refl 0
  count_none (suc k) p h = go (f p) refl (count_none k (suc p) (λ x a b. h x (omega arith) (omega arith)))
    where
      go : (b : Bool) → f p ≡ b → count f k (suc p) ≤ 0 → count f (suc k) p ≤ 0
      go true e later = absurd (h p (omega arith) (omega arith) e)
      go false e later = rw (e, count) later

  -- where only one word can pass, or one of two
  count_one : (k p e : ℕ) → ((x : ℕ) → p ≤ x → x < p + k → f x ≡ true → x ≡ e) → count f k p ≤ 1
  unfolding count
  count_one zero p e h = omega arith
  count_one (suc k) p e h =
      let later = count_one k (suc p) e (λ x a b. h x (omega arith) (omega arith)) in
      count_here k p 0
      (λ t. count_none k (suc p) (λ x a b u. omega (arith, h x (omega arith) (omega arith) u, h p (omega arith) (omega arith) t)))
      (λ t. later)

  pub count_two : (k p e t : ℕ) → ((x : ℕ) → p ≤ x → x < p + k → f x ≡ true → (x ≡ e) ⊎ (x ≡ t)) → count f k p ≤ 2
  unfolding count
  count_two zero p e t h = omega arith
  count_two (suc k) p e t h =
      let later = count_two k (suc p) e t (λ x a b. h x (omega arith) (omega arith)) in
      count_here k p 1
      (λ u. ⊎_elim (λ d. other e t d h) (λ d. other t e d (λ x a b v. ⊎_elim inr inl (h x a b v))) (h p (omega arith) (omega arith) u))
      (λ u. later)
    where
      other : (d d' : ℕ) → p ≡ d → ((x : ℕ) → p ≤ x → x < p + suc k → f x ≡ true → (x ≡ d) ⊎ (x ≡ d')) → count f k (suc p) ≤ 1
      other d d' c g =
          count_one k (suc p) d' (λ x a b v. ⊎_elim (λ o. absurd (omega arith)) (λ o. o) (g x (omega arith) (omega arith) v))

-- two tests that agree on the words searched find the same
module _ (f g : ℕ → Bool) where
  pub first_same : (k p : ℕ) → ((y : ℕ) → p ≤ y → y < p + k → f y ≡ g y) → first f k p ≡ first g k p
  unfolding first
  first_same zero p h = refl
  first_same (suc k) p h =
      go (g p) (h p (omega arith) (omega arith)) refl (first_same k (suc p) (λ y a b. h y (omega arith) (omega arith)))
    where
      go : (b : Bool) → f p ≡ g p → g p ≡ b → first f k (suc p) ≡ first g k (suc p) → first f (suc k) p ≡ first g (suc k) p
      go true e d later = rw (e ∙ d, first) (rw (d, first))
      go false e d later = rw (e ∙ d, first) (rw (d, first) later)

  pub climb_same : (k p : ℕ) → ((y : ℕ) → p < y → y ≤ p + k → f y ≡ g y) → climb f k p ≡ climb g k p
  unfolding climb
  climb_same zero p h = refl
  climb_same (suc k) p h = go (g (suc p)) (h (suc p) (omega arith) (omega arith)) refl (climb_same k (suc p) (λ y a b. h y (omega arith) (omega arith)))
    where
      go : (b : Bool) → f (suc p) ≡ g (suc p) → g (suc p) ≡ b → climb f k (suc p) ≡ climb g k (suc p) → climb f (suc k) p ≡ climb g (suc k) p
      go true e d later = rw (e ∙ d, climb) (rw (d, climb))
      go false e d later = rw (e ∙ d, climb) (rw (d, climb) later)

  pub sink_same : (p : ℕ) → ((y : ℕ) → y < p → f y ≡ g y) → sink f p ≡ sink g p
  unfolding sink
  sink_same zero h = refl
  sink_same (suc p) h = go (g p) (h p (omega arith)) refl (sink_same p (λ y a. h y (omega arith)))
    where
      go : (b : Bool) → f p ≡ g p → g p ≡ b → sink f p ≡ sink g p → sink f (suc p) ≡ sink g (suc p)
      go true e d later = rw (e ∙ d, sink) (rw (d, sink))
      go false e d later = rw (e ∙ d, sink) (rw (d, sink) later)
