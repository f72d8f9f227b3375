-- Words that pass, counted and listed: a row of words falls into two rows, a row without any has none, and the first and the last that
-- pass stand at the ends of the list. By induction on the words left. Assumes nothing.
use mathlib.Core.Path.{◌≡◌, refl, sym, ap, ap₂, ◌∙◌}
use mathlib.Core.Bool.{Bool, true, false}
use mathlib.Core.List.{List, [], ◌∷◌, ◌++◌}
use Prim.Native.Nat.{ℕ, zero, suc, ◌+◌, ◌-◌, ◌≤◌, ◌<◌}
use native.Mathlib.Omega.{arith}
use lib.ListN.{length}
use Rattle.word.specs.Search.{count, passing}
use Rattle.word.proofs.Searched.{First, Last}

module _ (f : ℕ → Bool) where
  pub passing-length : (k p : ℕ) → length (passing f k p) ≡ count f k p
  unfolding passing count
  passing-length zero p = refl
  passing-length (suc k) p = go (f p) refl (passing-length k (suc p))
    where
      go : (b : Bool) → f p ≡ b → length (passing f k (suc p)) ≡ count f k (suc p) → length (passing f (suc k) p) ≡ count f (suc k) p
      go true e later = rw (e, passing) (rw (e, count) (ap suc later))
      go false e later = rw (e, passing) (rw (e, count) later)

  -- k words from p and l more after them
  pub passing_split : (k l m p : ℕ) → k + l ≡ m → passing f m p ≡ passing f k p ++ passing f l (p + k)
  unfolding passing
  passing_split zero l m p e =
      let a : m ≡ l = omega arith in
      let b : p ≡ p + 0 = omega arith in
      ap₂ (passing f) a b
  passing_split (suc k) l zero p e = absurd (omega arith)
  passing_split (suc k) l (suc m) p e = go (f p) refl (passing_split k l m (suc p) (omega arith))
    where
      same : passing f l (suc p + k) ≡ passing f l (p + suc k)
      same = let q : suc p + k ≡ p + suc k = omega arith in ap (passing f l) q

      go : (b : Bool) → f p ≡ b → passing f m (suc p) ≡ passing f k (suc p) ++ passing f l (suc p + k)
          → passing f (suc m) p ≡ passing f (suc k) p ++ passing f l (p + suc k)
      go true e later = rw (e, passing) (ap (λ (xs : List ℕ). p ∷ xs) (later ∙ ap (λ (xs : List ℕ). passing f k (suc p) ++ xs) same))
      go false e later = rw (e, passing) (later ∙ ap (λ (xs : List ℕ). passing f k (suc p) ++ xs) same)

  pub count_split : (k l m p : ℕ) → k + l ≡ m → count f m p ≡ count f k p + count f l (p + k)
  unfolding count
  count_split zero l m p e =
      let a : m ≡ l = omega arith in
      let b : p ≡ p + 0 = omega arith in
      let c : count f m p ≡ count f l (p + 0) = ap₂ (count f) a b in
      omega arith
  count_split (suc k) l zero p e = absurd (omega arith)
  count_split (suc k) l (suc m) p e = go (f p) refl (count_split k l m (suc p) (omega arith))
    where
      same : count f l (suc p + k) ≡ count f l (p + suc k)
      same = let q : suc p + k ≡ p + suc k = omega arith in ap (count f l) q

      go : (b : Bool) → f p ≡ b → count f m (suc p) ≡ count f k (suc p) + count f l (suc p + k)
          → count f (suc m) p ≡ count f (suc k) p + count f l (p + suc k)
      go true e later = rw (e, count) (omega (arith, same))
      go false e later = rw (e, count) (omega (arith, same))

  pub none_passing : (k p : ℕ) → ((y : ℕ) → p ≤ y → y < p + k → f y ≡ false) → passing f k p ≡ []
  unfolding passing
  none_passing zero p n = refl
  none_passing (suc k) p n = rw (n p (omega arith) (omega arith), passing) (none_passing k (suc p) (λ y a b. n y (omega arith) (omega arith)))

  pub one_passing : (p : ℕ) → f p ≡ true → (k : ℕ) → passing f (suc k) p ≡ p ∷ passing f k (suc p)
  unfolding passing
  one_passing p e k = rw (e, passing)

  -- the first that passes stands first, and the last one last
  pub first_passing : {k p x : ℕ} → First f k p x → (l : ℕ) → suc x + l ≡ p + k → passing f k p ≡ x ∷ passing f l (suc x)
  first_passing {k} {p} {x} h l e =
      passing_split (x - p) (suc l) k p (omega (arith, h.low))
      ∙ ap (λ (xs : List ℕ). xs ++ passing f (suc l) (p + (x - p))) (none_passing (x - p) p (λ y a b. h.none_before y a (omega (arith, h.low))))
      ∙ (let q : p + (x - p) ≡ x = omega (arith, h.low) in ap (passing f (suc l)) q)
      ∙ one_passing x h.passes l

  pub last_passing : {k x : ℕ} → Last f k x → passing f k 0 ≡ passing f x 0 ++ x ∷ []
  last_passing {k} {x} h =
      passing_split x (suc (k - suc x)) k 0 (omega (arith, h.high))
      ∙ ap (λ (xs : List ℕ). passing f x 0 ++ xs)
      ((let q : 0 + x ≡ x = omega arith in ap (passing f (suc (k - suc x))) q)
      ∙ one_passing x h.passes (k - suc x)
      ∙ ap (λ (xs : List ℕ). x ∷ xs) (none_passing (k - suc x) (suc x) (λ y a b. h.none_after y a (omega (arith, h.high)))))

-- two tests that agree on the words looked at
module _ (f g : ℕ → Bool) where
  pub passing_same : (k p : ℕ) → ((y : ℕ) → p ≤ y → y < p + k → f y ≡ g y) → passing f k p ≡ passing g k p
  unfolding passing
  passing_same zero p h = refl
  passing_same (suc k) p h =
      go (g p) (h p (omega arith) (omega arith)) refl (passing_same k (suc p) (λ y a b. h y (omega arith) (omega arith)))
    where
      go : (b : Bool) → f p ≡ g p → g p ≡ b → passing f k (suc p) ≡ passing g k (suc p) → passing f (suc k) p ≡ passing g (suc k) p
      go true e d later = rw (e ∙ d, passing) (rw (d, passing) (ap (λ (xs : List ℕ). p ∷ xs) later))
      go false e d later = rw (e ∙ d, passing) (rw (d, passing) later)

  pub count_same : (k p : ℕ) → ((y : ℕ) → p ≤ y → y < p + k → f y ≡ g y) → count f k p ≡ count g k p
  count_same k p h = sym (passing-length f k p) ∙ ap length (passing_same k p h) ∙ passing-length g k p
