-- As many words pass as there are just where every word does: by induction on the words. Assumes nothing.
use mathlib.Core.Path.{◌≡◌, refl, ap, ◌∙◌}
use mathlib.Core.Bool.{Bool, true, false, false≢true}
use Prim.Native.Nat.{ℕ, zero, suc, ◌+◌, ◌-◌, ◌≤◌, ◌<◌}
use native.Mathlib.Decide.{ℕ_discrete}
use native.Mathlib.Nat.{le_refl}
use native.Mathlib.Omega.{arith}
use Rattle.word.specs.Search.{count}
use Rattle.word.proofs.Tests.{same_test}
use Rattle.rule.proofs.rank.Pairs.{count_most}
use Rattle.counting.proofs.fitting.Passing.{count_split}
use Rattle.checker.specs.covering.Check.{every_word}
use Rattle.checker.proofs.covering.EveryWord.{each_every, every_each}

module _ (f : ℕ → Bool) where
  counted_each : (k p : ℕ) → count f k p ≡ k → (x : ℕ) → p ≤ x → x < p + k → f x ≡ true
  unfolding count
  counted_each zero p e x a b = absurd (omega arith)
  counted_each (suc k) p e x a b = go (f p) refl (count_most f k (suc p)) (λ d h. counted_each k (suc p) d x h (omega arith))
    where
      go : (v : Bool) → f p ≡ v → count f k (suc p) ≤ k → (count f k (suc p) ≡ k → suc p ≤ x → f x ≡ true) → f x ≡ true
      go true d l later = at (ℕ_discrete x p)
        where
          at : Dec (x ≡ p) → f x ≡ true
          at (yes h) = ap f h ∙ d
          at (no h) = let z = rw (d, count) at e in later (omega arith) (omega arith)
      go false d l later = let z = rw (d, count) at e in absurd (omega arith)

  each_counted : (k p : ℕ) → ((x : ℕ) → p ≤ x → x < p + k → f x ≡ true) → count f k p ≡ k
  unfolding count
  each_counted zero p h = refl
  each_counted (suc k) p h =
      rw (h p (le_refl p) (omega arith), count) (ap suc (each_counted k (suc p) (λ x a b. h x (omega arith) (omega arith))))

  -- the words from p to q, by how many pass below each of the two
  module _ (p q : ℕ) (order : p ≤ q) where
    between : count f q 0 ≡ count f p 0 + count f (q - p) p
    between =
        let z : 0 + p ≡ p = omega arith in
        count_split f p (q - p) q 0 (omega arith) ∙ ap (λ (n : ℕ). count f p 0 + count f (q - p) n) z

    pub no_fewer : count f p 0 ≤ count f q 0
    no_fewer = omega (arith, between)

    pub some_lack : (count f q 0 - count f p 0 ≡ q - p → ⊥) → false ≡ every_word f p q
    some_lack n =
        same_test false (every_word f p q) (λ e. absurd (false≢true e))
        (λ e. absurd (n (omega (arith, between, each_counted (q - p) p (λ x a b. every_each f p q e x a (omega arith))))))

    pub last_decides : count f q 0 - count f p 0 ≡ q - p → f q ≡ every_word f p q
    last_decides e =
        same_test (f q) (every_word f p q) (λ t. each_every f p q (λ x a b. go t x a b (ℕ_discrete x q))) (λ t. every_each f p q t q order (le_refl q))
      where
        go : f q ≡ true → (x : ℕ) → p ≤ x → x ≤ q → Dec (x ≡ q) → f x ≡ true
        go t x a b (yes h) = ap f h ∙ t
        go t x a b (no h) = counted_each (q - p) p (omega (arith, between)) x a (omega arith)
