-- A word fits where it meets the form 7 rules and all the others: one rule that it fails, or the form 7 rules that it
-- does not all meet, will do to keep it from fitting, and where no other rule fails it only form 7 counts. By induction on
-- the rules. Assumes nothing.
use mathlib.Core.Path.{◌≡◌, refl, ap₂}
use mathlib.Core.Bool.{Bool, true, false, ◌&&◌, cond, and-false}
use mathlib.Core.List.{List, [], ◌∷◌}
use Prim.Native.Nat.{ℕ, zero, suc, ◌<◌}
use native.Mathlib.Decide.{ℕ_discrete}
use native.Mathlib.Omega.{arith}
use borrow.Author.Tests.{eq-eqb, ne_eqb}
use lib.Dec.{eqb}
use lib.ListN.{length}
use Rattle.rule.specs.declared.Rule.{Rule}
use Rattle.rule.specs.Meaning.{fits, meets, meets7}
use Rattle.chain.specs.Chain.{Plain}
use Rattle.chain.specs.Links.{nth}

module _ (w x : ℕ) where
  pub rule_fails : (rs : List Rule) (i : ℕ) → i < length rs → meets w (nth rs i) x ≡ false → fits w rs x ≡ false
  unfolding fits
  rule_fails [] i h e = absurd (omega arith)
  rule_fails (r ∷ rs) zero h e = rw e
  rule_fails (r ∷ rs) (suc i) h e = rw (rule_fails rs i (omega arith) e) (and-false (meets w r x))

  pub bits_fail : (rs : List Rule) → meets7 w rs x ≡ false → fits w rs x ≡ false
  unfolding fits meets7
  bits_fail [] e = e
  bits_fail (r ∷ rs) e = go (eqb r.form 7) (meets w r x) e (bits_fail rs)
    where
      go : (s m : Bool) → (cond s m true && meets7 w rs x) ≡ false → (meets7 w rs x ≡ false → fits w rs x ≡ false) → (m && fits w rs x) ≡ false
      go true true e later = later e
      go false true e later = later e
      go s false e later = refl

  pub bits_only : (rs : List Rule) → ((i : ℕ) → Plain rs i → meets w (nth rs i) x ≡ false → ⊥) → fits w rs x ≡ meets7 w rs x
  unfolding fits meets7
  bits_only [] n = refl
  bits_only (r ∷ rs) n =
      ap₂ ◌&&◌ (go (ℕ_discrete r.form 7) (meets w r x) refl)
      (bits_only rs (λ i d. n (suc i) (record { there = omega (arith, d.there); other = d.other })))
    where
      go : Dec (r.form ≡ 7) → (m : Bool) → meets w r x ≡ m → m ≡ cond (eqb r.form 7) m true
      go (yes e) m d = rw (eq-eqb r.form 7 e)
      go (no e) true d = rw (ne_eqb r.form 7 e)
      go (no e) false d = absurd (n 0 (record { there = omega arith; other = e }) d)
