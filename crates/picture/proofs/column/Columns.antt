-- The columns lie side by side and fill the words: there are 64 times 2^(w-6) words, or from fewer than 6 bits 2^w columns of one.
-- Assumes nothing.
use mathlib.Core.Path.{◌≡◌, refl, sym, ap, ◌∙◌, subst}
use Prim.Native.Nat.{ℕ, suc, min, ◌-◌, ◌*◌, ◌^◌, ◌≤◌, ◌<◌}
use native.Mathlib.Decide.{dec_lt}
use native.Mathlib.Nat.{mul-le-mul_right}
use native.Mathlib.Omega.{arith, pow_step}
use lib.Pow.{pow_mono, pow_pos}
use Rattle.word.specs.Word.{top}
use Rattle.word.proofs.Widths.{top-suc}
use Rattle.rule.specs.declared.band.Run.{Run}
use Rattle.picture.specs.column.Column.{columns, size, words_of}

module _ (w : ℕ) where
  pub few_columns : w < 6 → columns w ≡ suc (top w)
  unfolding columns
  few_columns h = let m : min w 6 ≡ w = omega arith in ap (λ (n : ℕ). 2 ^ n) m ∙ sym (top-suc w)

  pub all_columns : 6 ≤ w → columns w ≡ 64
  unfolding columns
  all_columns h = let m : min w 6 ≡ 6 = omega arith in ap (λ (n : ℕ). 2 ^ n) m

  pub one_word : w ≤ 6 → size w ≡ 1
  unfolding size
  one_word h = let m : w - 6 ≡ 0 = omega arith in ap (λ (n : ℕ). 2 ^ n) m

  pub more_words : size w ≡ suc (top (w - 6))
  unfolding size
  more_words = sym (top-suc (w - 6))

  size_is : size w ≡ 2 ^ (w - 6)
  unfolding size
  size_is = refl

  pub some_words : 0 < size w
  unfolding size
  some_words = pow_pos (w - 6)

  fills : columns w * size w ≡ suc (top w)
  fills = go (dec_lt w 6)
    where
      go : Dec (w < 6) → columns w * size w ≡ suc (top w)
      go (yes h) = ap (λ (n : ℕ). columns w * n) (one_word (omega arith)) ∙ omega (arith, few_columns h)
      go (no h) =
          let m = w - 6 in
          let e : suc (suc (suc (suc (suc (suc m))))) ≡ w = omega arith in
          ap (λ (n : ℕ). n * size w) (all_columns (omega arith))
          ∙ omega (arith, sixty_four m, size_is)
          ∙ ap (λ (n : ℕ). 2 ^ n) e
          ∙ sym (top-suc w)
        where
          sixty_four : (m : ℕ) → 64 * 2 ^ m ≡ 2 ^ suc (suc (suc (suc (suc (suc m)))))
          sixty_four m = omega (arith, pow_step 2 m, pow_step 2 (suc m), pow_step 2 (suc (suc m)), pow_step 2 (suc (suc (suc m))), pow_step 2 (suc (suc (suc (suc m)))), pow_step 2 (suc (suc (suc (suc (suc m))))))

  -- what a machine word holds
  pub top_fits : (j : ℕ) → w ≤ j → suc (top w) ≤ 2 ^ j
  top_fits j h = omega (arith, top-suc w, pow_mono {i = w} {j = j} h)

  pub column_words : (c : ℕ) → c < columns w → ((words_of w c).from ≤ (words_of w c).to) × ((words_of w c).to ≤ top w)
  unfolding words_of
  column_words c h =
      let m : suc c * size w ≤ columns w * size w = mul-le-mul_right (size w) h in
      (omega arith, omega (arith, m, fills, some_words))

  -- the same of the words that were found for a column
  pub column_ends : (c : ℕ) → c < columns w → {r : Run} → r ≡ words_of w c → (r.from ≤ r.to) × (r.to ≤ top w)
  column_ends c h e = subst (λ (r : Run). (r.from ≤ r.to) × (r.to ≤ top w)) (sym e) (column_words c h)
