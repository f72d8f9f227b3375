-- Where a way down stops: nothing that passes lies on the way, and who goes further down meets a word that does. By induction on
-- the word. Assumes nothing.
use Rattle.std.proofs.Common.{◌≡◌, ℕ, zero, suc, ◌<◌, ◌≤◌, Bool, true, false, sym, refl, ap, ◌∙◌, arith}
use mathlib.Core.Bool.{false≢true}
use native.Mathlib.Decide.{dec_lt}
use Rattle.word.specs.Search.{sink}

-- q is where a way down from p stops
pub record Sunk (f : ℕ → Bool) (p q : ℕ) : Type 0 where
  pub order : q ≤ p
  pub misses : (y : ℕ) → q ≤ y → y < p → f y ≡ false
  pub lowest : (q' : ℕ) → ((y : ℕ) → q' ≤ y → y < p → f y ≡ false) → q ≤ q'

module _ (f : ℕ → Bool) where
  pub sink_is : (p : ℕ) → Sunk f p (sink f p)
  unfolding sink
  sink_is zero = record { order = omega arith; misses = λ y a b. absurd (omega arith); lowest = λ q n. omega arith }
  sink_is (suc p) = go (f p) refl (sink_is p)
    where
      go : (b : Bool) → f p ≡ b → Sunk f p (sink f p) → Sunk f (suc p) (sink f (suc p))
      go true t later = rw (t, sink) (record { order = omega arith; misses = λ y a b. absurd (omega arith); lowest = λ q n. up q n (dec_lt p q) })
        where
          up : (q : ℕ) → ((y : ℕ) → q ≤ y → y < suc p → f y ≡ false) → Dec (p < q) → suc p ≤ q
          up q n (yes d) = d
          up q n (no d) = absurd (false≢true (sym (n p (omega arith) (omega arith)) ∙ t))
      go false t later =
          rw (t, sink) (record { order = omega (arith, later.order); misses = λ y a b. miss y a b (dec_lt y p); lowest = λ q n. later.lowest q (λ y a b. n y a (omega arith)) })
        where
          miss : (y : ℕ) → sink f p ≤ y → y < suc p → Dec (y < p) → f y ≡ false
          miss y a b (yes d) = later.misses y a d
          miss y a b (no d) = let s : y ≡ p = omega arith in ap f s ∙ t
