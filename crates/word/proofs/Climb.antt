-- Where a climb stops: at the last word allowed or just below a word that passes, with nothing that passes on the way, so
-- that nobody can go further. By induction on the words left. Assumes nothing.
use Rattle.std.proofs.Common.{◌≡◌, ℕ, zero, suc, ◌+◌, ◌<◌, ◌≤◌, Bool, true, false, ◌⊎◌, sym, refl, ap, ◌∙◌, inl, inr, arith}
use mathlib.Core.Bool.{false≢true}
use native.Mathlib.Decide.{dec_lt}
use Rattle.word.specs.Search.{climb}

-- q is where a climb from p stops, when e is the last word allowed
pub record Climbed (f : ℕ → Bool) (p e q : ℕ) : Type 0 where
  pub order : p ≤ q
  pub bound : q ≤ e
  pub misses : (y : ℕ) → p < y → y ≤ q → f y ≡ false
  pub stop : (q ≡ e) ⊎ (f (suc q) ≡ true)

module _ (f : ℕ → Bool) where
  -- and p itself, where it does not pass
  pub all_miss : {p e q : ℕ} → Climbed f p e q → f p ≡ false → (y : ℕ) → p ≤ y → y ≤ q → f y ≡ false
  all_miss {p} c t y l h = go (dec_lt p y)
    where
      go : Dec (p < y) → f y ≡ false
      go (yes d) = c.misses y d h
      go (no d) = let s : y ≡ p = omega arith in ap f s ∙ t

  pub no_further : {p e q : ℕ} → Climbed f p e q → (q' : ℕ) → q' ≤ e → ((y : ℕ) → p < y → y ≤ q' → f y ≡ false) → q' ≤ q
  no_further {p} {e} {q} c q' h n = go (dec_lt q q') c.stop
    where
      go : Dec (q < q') → (q ≡ e) ⊎ (f (suc q) ≡ true) → q' ≤ q
      go (yes d) (inl s) = omega arith
      go (yes d) (inr s) = absurd (false≢true (sym (n (suc q) (omega (arith, c.order)) d) ∙ s))
      go (no d) s = omega arith

  pub climb_is : (k p e : ℕ) → p + k ≡ e → Climbed f p e (climb f k p)
  unfolding climb
  climb_is zero p e h = record { order = omega arith; bound = omega arith; misses = λ y a b. absurd (omega arith); stop = inl (omega arith) }
  climb_is (suc k) p e h = go (f (suc p)) refl (climb_is k (suc p) e (omega arith))
    where
      go : (b : Bool) → f (suc p) ≡ b → Climbed f (suc p) e (climb f k (suc p)) → Climbed f p e (climb f (suc k) p)
      go true t later =
          rw (t, climb) (record { order = omega arith; bound = omega arith; misses = λ y a b. absurd (omega arith); stop = inr t })
      go false t later =
          rw (t, climb) (record { order = omega arith; bound = later.bound; misses = all_miss later t; stop = later.stop })
