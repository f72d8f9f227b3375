-- When a word is within an arc, by plain comparisons: of a ≤ x, x ≤ b and b < a, two or three hold where it is, and at
-- most one where it is not. Assumes nothing.
use Rattle.std.proofs.Common.{◌≡◌, ℕ, ◌<◌, ◌≤◌, Bool, true, false, cond, ◌&&◌, ◌||◌, leb, ◌⊎◌, sym, ◌∙◌, inl, inr, ⊎_elim, true≢false, arith, le-leb}
use native.Mathlib.Decide.{dec_le}
use borrow.Author.Tests.{lt-leb}
use Rattle.rule.specs.band.route.Band.{within}

abbrev pub In : (a b x : ℕ) → Type 0
In a b x = ((a ≤ x) × (x ≤ b)) ⊎ (((b < a) × (x ≤ b)) ⊎ ((b < a) × (a ≤ x)))

abbrev pub Out : (a b x : ℕ) → Type 0
Out a b x = ((b < x) × (x < a)) ⊎ (((a ≤ b) × (b < x)) ⊎ ((a ≤ b) × (x < a)))

module _ (a b x : ℕ) where
  pub value : (p q r : Bool) → leb a b ≡ p → leb a x ≡ q → leb x b ≡ r → within a b x ≡ cond p (q && r) (r || q)
  unfolding within
  value p q r e f g = cc

  pub is_in : In a b x → within a b x ≡ true
  is_in =
      ⊎_elim (λ h. value true true true (le-leb a b (omega arith)) (le-leb a x (omega arith)) (le-leb x b (omega arith)))
      (⊎_elim (λ h. value false false true (lt-leb a b (omega arith)) (lt-leb a x (omega arith)) (le-leb x b (omega arith)))
      (λ h. value false true false (lt-leb a b (omega arith)) (le-leb a x (omega arith)) (lt-leb x b (omega arith))))

  pub is_out : Out a b x → within a b x ≡ false
  is_out =
      ⊎_elim (λ h. value false false false (lt-leb a b (omega arith)) (lt-leb a x (omega arith)) (lt-leb x b (omega arith)))
      (⊎_elim (λ h. value true true false (le-leb a b (omega arith)) (le-leb a x (omega arith)) (lt-leb x b (omega arith)))
      (λ h. value true false true (le-leb a b (omega arith)) (lt-leb a x (omega arith)) (le-leb x b (omega arith))))

  pub sides : In a b x ⊎ Out a b x
  sides = go (dec_le a b) (dec_le a x) (dec_le x b)
    where
      go : Dec (a ≤ b) → Dec (a ≤ x) → Dec (x ≤ b) → In a b x ⊎ Out a b x
      go (yes p) (yes q) (yes r) = inl (inl (q, r))
      go (yes p) (yes q) (no r) = inr (inr (inl (p, omega arith)))
      go (yes p) (no q) r = inr (inr (inr (p, omega arith)))
      go (no p) (yes q) r = inl (inr (inr (omega arith, q)))
      go (no p) (no q) (yes r) = inl (inr (inl (omega arith, r)))
      go (no p) (no q) (no r) = inr (inl (omega arith, omega arith))

  pub in_of : within a b x ≡ true → In a b x
  in_of e = ⊎_elim (λ i. i) (λ o. absurd (true≢false (sym e ∙ is_out o))) sides

  pub out_of : within a b x ≡ false → Out a b x
  out_of e = ⊎_elim (λ i. absurd (true≢false (sym (is_in i) ∙ e))) (λ o. o) sides
