-- A count that starts later counts no more, and past a word that passes it counts one less at least. By induction on the
-- words left. Assumes nothing.
use Rattle.std.proofs.Common.{◌≡◌, ℕ, zero, suc, ◌+◌, ◌<◌, ◌≤◌, Bool, true, false, refl, ap₂, le_of_eq, arith}
use native.Mathlib.Decide.{dec_lt}
use Rattle.word.specs.Search.{count}

module _ (f : ℕ → Bool) where
  count_next : (k p : ℕ) → count f k (suc p) ≤ count f (suc k) p
  unfolding count
  count_next k p = go (f p) refl
    where
      go : (b : Bool) → f p ≡ b → count f k (suc p) ≤ count f (suc k) p
      go true e = rw (e, count) (omega arith)
      go false e = rw (e, count) (omega arith)

  -- two counts that end at the same word
  pub count_later : (k k' p p' : ℕ) → p ≤ p' → p' + k' ≡ p + k → count f k' p' ≤ count f k p
  unfolding count
  count_later zero k' p p' l e = let z : k' ≡ 0 = omega arith in rw z (omega arith)
  count_later (suc k) k' p p' l e = go (dec_lt p p') (λ d. count_later k k' (suc p) p' d (omega arith))
    where
      go : Dec (p < p') → (p < p' → count f k' p' ≤ count f k (suc p)) → count f k' p' ≤ count f (suc k) p
      go (yes d) later = omega (arith, later d, count_next k p)
      go (no d) later =
          let a : k' ≡ suc k = omega arith in
          let b : p' ≡ p = omega arith in
          le_of_eq (ap₂ (count f) a b)

  pub count_past : (k k' p x : ℕ) → p ≤ x → suc x + k' ≡ p + k → f x ≡ true → count f k' (suc x) < count f k p
  unfolding count
  count_past k k' p x l e t = let h : count f (suc k') x ≤ count f k p = count_later k (suc k') p x l (omega arith) in rw (t, count) at h
