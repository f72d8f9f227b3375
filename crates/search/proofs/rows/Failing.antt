-- Whether a word fails the band of a row, by how far the band goes: what goes all the way round has every word. Assumes nothing.
use Rattle.std.proofs.Common.{◌≡◌, ℕ, suc, ◌-◌, ◌^◌, ◌<◌, ◌≤◌, Bool, true, false, cond, not, eqb, ◌⊎◌, List, get_or, sym, refl, ap, ◌∙◌, subst, inl, inr, arith, pow_mono}
use mathlib.Core.Bool.{not-not}
use native.Mathlib.Decide.{dec_le}
use Rattle.word.specs.Word.{IsWidth, top}
use Rattle.word.proofs.Widths.{top-suc}
use Rattle.rule.specs.declared.band.Band.{Band}
use Rattle.rule.specs.band.route.Band.{Laid, holds, within}
use Rattle.rule.proofs.band.Runs.{inside-holds, outside_holds}
use Rattle.rule.proofs.band.Sides.{is_in}
use Rattle.search.specs.rows.route.Rows.{band_in, onward}
use Rattle.search.proofs.rows.Reading.{machine}

-- the top word is below half of the machine's wheel, or its last word
tops : (w : ℕ) → IsWidth w → (top w < 2 ^ 63) ⊎ (top w ≡ 2 ^ 64 - 1)
tops w width = go (dec_le w 63)
  where
    go : Dec (w ≤ 63) → (top w < 2 ^ 63) ⊎ (top w ≡ 2 ^ 64 - 1)
    go (yes k) = inl (omega (arith, pow_mono {i = w} {j = 63} k, top-suc w))
    go (no k) =
        let e : w ≡ 64 = omega (arith, width.high) in
        inr (omega (arith, ap (λ (v : ℕ). 2 ^ v) e, top-suc w))

-- a band that goes as far as the top word, with no seam, starts at 0
starts_low : (t a : ℕ) → (t < 2 ^ 63) ⊎ (t ≡ 2 ^ 64 - 1) → a ≤ t → onward a t ≤ t → (suc (onward a t) ≡ a → ⊥) → a ≡ 0
unfolding onward
starts_low t a (inl k) l h no_seam = omega arith
starts_low t a (inr k) l h no_seam = go (dec_le a 0)
  where
    go : Dec (a ≤ 0) → a ≡ 0
    go (yes z) = omega arith
    go (no z) = absurd (no_seam (omega arith))

module _ (w : ℕ) (width : IsWidth w) (row : List ℕ) (laid : Laid (top w) (band_in row)) (x : ℕ) (word : x ≤ top w) where
  abbrev band : Band
  band = band_in row

  abbrev far : ℕ
  far = get_or row 5 0

  -- all the way round
  whole : far ≡ top w → within band.from band.to x ≡ true
  unfolding band_in onward
  whole e =
      let z : band.from ≡ 0 = starts_low (top w) band.from (tops w width) laid.from_word
      (subst (λ (d : ℕ). onward band.from d ≤ top w) e laid.to_word) (λ s. laid.no_seam (ap (λ (d : ℕ). suc (onward band.from d)) e ∙ s)) in
      is_in band.from band.to x (inl (omega arith, omega (arith, machine w (top w) width.high (omega arith))))

  pub whole_fails : far ≡ top w → eqb (get_or row 6 0) 1 ≡ not (holds band x)
  unfolding holds band_in
  whole_fails e = rw (whole e) (side (eqb (get_or row 6 0) 1))
    where
      side : (v : Bool) → v ≡ not (cond v (not true) true)
      side true = refl
      side false = refl

  -- a part of the wheel
  pub inside_fails : eqb (get_or row 6 0) 1 ≡ true → within (get_or row 4 0) (onward (get_or row 4 0) far) x ≡ not (holds band x)
  unfolding band_in
  inside_fails e = sym (ap not (inside-holds band e x) ∙ not-not _)

  pub outside_fails : eqb (get_or row 6 0) 1 ≡ false → within (get_or row 4 0) (onward (get_or row 4 0) far) x ≡ holds band x
  unfolding band_in
  outside_fails e = sym (outside_holds band e x)
