-- What settled means at the edges, at every width: the time since the power change counts up from 0 at c1, and a word just
-- before it has counted half or more, so that it is never settled. Assumes nothing.
use mathlib.Core.Path.{◌≡◌, refl, ap, ap₂, ◌∙◌}
use mathlib.Core.Bool.{Bool, true, false, not, ◌&&◌, and-false}
use mathlib.Core.Logic.{⊎_elim}
use Prim.Native.Nat.{ℕ, zero, suc, ◌≤◌, ◌<◌}
use native.Mathlib.Decide.{dec_le}
use native.Mathlib.Omega.{arith}
use borrow.Author.Tests.{le-leb, le-ltb, lt-leb, lt-ltb}
use lib.Dec.{eqb, leb, ltb}
use Rattle.word.specs.Word.{half, minus, plus, top}
use Rattle.word.proofs.Sums.{minus_cases, minus_word, redo}
use Rattle.word.proofs.Widths.{half_pos, halves}
use Rattle.rule.specs.Meaning.{meets, rows, rule, settled}
use Rattle.rule.proofs.Rows.{as_written, at_row, negated}

module _ (w c1 c2 x : ℕ) where
  as_settled : meets w (rule 8 0 c1 c2) x ≡ settled w c1 c2 x
  unfolding rows
  as_settled = as_written w (rule 8 0 c1 c2) x refl ∙ at_row w (rule 8 0 c1 c2) x 8 refl

  not-settled : meets w (rule 8 1 c1 c2) x ≡ not (settled w c1 c2 x)
  unfolding rows
  not-settled = negated w (rule 8 1 c1 c2) x (λ e. omega arith) ∙ ap not (at_row w (rule 8 1 c1 c2) x 8 refl)

  -- half or more since the power change
  too_late : half w ≤ minus w x c1 → settled w c1 c2 x ≡ false
  too_late h = ap (λ (b : Bool). leb c2 (minus w x c1) && b) (le-ltb (minus w x c1) (half w) h) ∙ and-false (leb c2 (minus w x c1))

  pub never : half w ≤ c2 → settled w c1 c2 x ≡ false
  never h = go (dec_le c2 (minus w x c1))
    where
      go : Dec (c2 ≤ minus w x c1) → settled w c1 c2 x ≡ false
      go (yes d) = too_late (omega arith)
      go (no d) = ap (λ (b : Bool). b && ltb (minus w x c1) (half w)) (lt-leb c2 (minus w x c1) (omega arith))

  -- "Where c2 is half or more no word fits; negated, all do."
  pub half_or_more : half w ≤ c2 → (meets w (rule 8 0 c1 c2) x ≡ false) × (meets w (rule 8 1 c1 c2) x ≡ true)
  half_or_more h = (as_settled ∙ never h, not-settled ∙ ap not (never h))

-- "At width 1, with c2 = 0, only c1 fits."
pub width_1 : (c1 x : ℕ) → c1 ≤ top 1 → x ≤ top 1 → meets 1 (rule 8 0 c1 0) x ≡ eqb x c1
unfolding top half minus
width_1 c1 x h k = as_settled 1 c1 0 x ∙ go c1 x h k
  where
    go : (c x : ℕ) → c ≤ top 1 → x ≤ top 1 → settled 1 c 0 x ≡ eqb x c
    go zero zero h k = refl
    go zero (suc zero) h k = refl
    go (suc zero) zero h k = refl
    go (suc zero) (suc zero) h k = refl
    go zero (suc (suc x)) h k = absurd (omega arith)
    go (suc zero) (suc (suc x)) h k = absurd (omega arith)
    go (suc (suc c)) x h k = absurd (omega arith)

module _ (w : ℕ) (width : 1 ≤ w) (c1 c2 : ℕ) (word : c1 ≤ top w) where
  -- "A sample stamped just before the power change" is never settled
  pub just_before : (d : ℕ) → 1 ≤ d → d ≤ half w → meets w (rule 8 0 c1 c2) (minus w c1 d) ≡ false
  just_before d low high = as_settled w c1 c2 (minus w c1 d) ∙ too_late w c1 c2 (minus w c1 d) since
    where
      whole : half w ≤ top w
      whole = omega (arith, halves w width, half_pos w)

      since : half w ≤ minus w (minus w c1 d) c1
      since =
          let back = minus_cases w (minus w c1 d) c1 (minus_word w c1 d) word in
          ⊎_elim (λ p. ⊎_elim (λ q. absurd (omega arith)) (λ q. omega (arith, halves w width)) back)
          (λ p. ⊎_elim (λ q. omega (arith, halves w width)) (λ q. omega (arith, halves w width)) back)
          (minus_cases w c1 d word (omega (arith, whole)))

  -- the word of the settling time itself is, where that is below half
  pub just_settled : c2 < half w → meets w (rule 8 0 c1 c2) (plus w c1 c2) ≡ true
  just_settled h =
      let e : minus w (plus w c1 c2) c1 ≡ c2 = redo w c1 c2 word (omega (arith, halves w width)) in
      as_settled w c1 c2 (plus w c1 c2)
      ∙ ap₂ ◌&&◌ (le-leb c2 (minus w (plus w c1 c2) c1) (omega arith)) (lt-ltb (minus w (plus w c1 c2) c1) (half w) (omega arith))
