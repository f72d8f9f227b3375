-- A word meets a rule exactly when it is on the holding side of the rule's band, and so the run around a failing word is
-- the band's. Assumes nothing.
use Rattle.std.proofs.Common.{◌≡◌, ℕ, suc, ◌-◌, ◌≤◌, Bool, true, false, cond, not, eqb, leb, ◌⊎◌, get_or, sym, refl, ap, ◌∙◌, subst, ap₂, inl, inr, ⊎_elim, le_refl, arith, eq-eqb, le-leb}
use mathlib.Core.Bool.{not-not}
use native.Mathlib.Decide.{ℕ_discrete}
use Rattle.word.specs.Word.{top, half, minus, plus}
use Rattle.word.specs.Search.{climb, sink}
use Rattle.word.proofs.Search.{climb_same, count_two, sink_same}
use Rattle.word.proofs.Sums.{minus_cases, minus_word, plus_word}
use Rattle.word.proofs.Widths.{halves, half_pos}
use Rattle.rule.specs.declared.Rule.{Rule}
use Rattle.rule.specs.Meaning.{Lawful, ends, meets, reach, rows, runs, start, written}
use Rattle.rule.proofs.Forms.{by_form, end, row}
use Rattle.rule.proofs.Ends.{ends_below}
use Rattle.rule.proofs.Rows.{at_row, past_rows}
use Rattle.rule.specs.declared.band.Band.{Band}
use Rattle.rule.specs.band.route.Band.{Laid, band_of, by_sense, holds, other_side, seamless, settled_band, span, wheel, within, written_band, written_bands}
use Rattle.rule.proofs.band.Arcs.{distance, form1, form2, form3, form4, form5, form6, form8}
use Rattle.rule.proofs.band.Laying.{at_band, part_band, past_bands, whole_band}
use Rattle.rule.proofs.band.Runs.{edge, run_ends}
use Rattle.rule.proofs.band.Sides.{is_in}

abbrev Words : ℕ → Band → Type 0
Words w b = (b.from ≤ top w) × (b.to ≤ top w)

-- a band laid without a seam
module _ (w : ℕ) (b : Band) (words : Words w b) where
  -- a whole wheel is the same from wherever it is written
  seam_law : (x : ℕ) → x ≤ top w → holds (seamless w b) x ≡ holds b x
  unfolding holds
  seam_law x word = go (ℕ_discrete (minus w b.to b.from) (top w))
    where
      all : minus w b.to b.from ≡ top w → within 0 (top w) x ≡ within b.from b.to x
      all e =
          is_in 0 (top w) x (inl (omega arith, word))
          ∙ sym
          (distance w _ _ x words.0 words.1 word
          ∙ le-leb (minus w x b.from) (minus w b.to b.from) (omega (arith, e, minus_word w x b.from)))

      go : Dec (minus w b.to b.from ≡ top w) → holds (seamless w b) x ≡ holds b x
      go (yes e) = ap (λ (c : Band). holds c x) (whole_band w b e) ∙ ap (λ (v : Bool). cond b.inside (not v) v) (all e)
      go (no e) = ap (λ (c : Band). holds c x) (part_band w b e)

  seamless_laid : Laid (top w) (seamless w b)
  seamless_laid = go (ℕ_discrete (minus w b.to b.from) (top w))
    where
      seam : (minus w b.to b.from ≡ top w → ⊥) → suc b.to ≡ b.from → ⊥
      seam d s =
          d (⊎_elim (λ c. absurd (omega arith)) (λ c. omega arith) (minus_cases w b.to b.from words.1 words.0))

      go : Dec (minus w b.to b.from ≡ top w) → Laid (top w) (seamless w b)
      go (yes e) = rw (whole_band w b e) (record { from_word = omega arith; to_word = le_refl (top w); no_seam = λ s. omega arith })
      go (no e) = rw (part_band w b e) (record { from_word = words.0; to_word = words.1; no_seam = seam e })

-- a band by the sense, where s says that it is as written
module _ (b : Band) where
  pub other_holds : (x : ℕ) → holds (other_side b) x ≡ not (holds b x)
  unfolding holds
  other_holds x = go b.inside
    where
      v : Bool
      v = within b.from b.to x

      go : (i : Bool) → cond (not i) (not v) v ≡ not (cond i (not v) v)
      go true = sym (not-not v)
      go false = refl

  side_holds : (s : Bool) (x : ℕ) → holds (cond s b (other_side b)) x ≡ cond s (holds b x) (not (holds b x))
  side_holds true x = refl
  side_holds false x = other_holds x

  side_laid : (t : ℕ) → Laid t b → (s : Bool) → Laid t (cond s b (other_side b))
  side_laid t l true = l
  side_laid t l false = record { from_word = l.from_word; to_word = l.to_word; no_seam = l.no_seam }

module _ (w : ℕ) (width : 1 ≤ w) (r : Rule) (lawful : Lawful w r) where
  -- the ends of every row are words
  row_words : Words w (written_band w r)
  unfolding written_bands settled_band
  row_words =
      let c = lawful.c1_word in
      let m = minus_word w in
      let h : half w ≤ top w = omega (arith, halves w width, half_pos w) in
      let t : 0 ≤ top w = omega arith in
      by_form (λ (n : ℕ). r.form ≡ n → Words w (written_band w r))
      (row (at 0 (t, le_refl (top w)))
      (row (at 1 (m _ _, m _ _))
      (row (at 2 (m _ _, m _ _))
      (row (at 3 (m _ _, m _ _))
      (row (at 4 (h, c))
      (row (at 5 (c, omega arith))
      (row (at 6 (c, c)) (row (at 7 (t, le_refl (top w))) (row (at 8 (settled_words (leb (half w) r.c2))) end)))))))))
      (λ n k e. subst (Words w) (sym (past_bands w r (rw e k))) (t, le_refl (top w))) r.form refl
    where
      settled_words : (t : Bool) → Words w (cond t (wheel (top w) true) (span (plus w r.c1 r.c2) (plus w r.c1 (half w - 1))))
      settled_words true = (omega arith, le_refl (top w))
      settled_words false = (plus_word w _ _, plus_word w _ _)

      at : (k : ℕ) → Words w (get_or (written_bands w r.c1 r.c2) k (span 0 (top w))) → r.form ≡ k → Words w (written_band w r)
      at k h e = subst (Words w) (sym (at_band w r k e)) h

  module _ (x : ℕ) (word : x ≤ top w) where
    all_words : holds (span 0 (top w)) x ≡ true
    unfolding holds
    all_words = is_in 0 (top w) x (inl (omega arith, word))

    -- one row: what the form says is what its band says
    by_row : (k : ℕ) → get_or (rows w r.c1 r.c2 x) k true ≡ holds (get_or (written_bands w r.c1 r.c2) k (span 0 (top w))) x
        → r.form ≡ k → written w r x ≡ holds (written_band w r) x
    by_row k same e = at_row w r x k e ∙ same ∙ ap (λ (b : Band). holds b x) (sym (at_band w r k e))

    -- a word meets the rule as written exactly when it is on the holding side of its band as written
    pub written_law : (r.form ≡ 7 → ⊥) → written w r x ≡ holds (written_band w r) x
    unfolding rows written_bands
    written_law d =
        let c = lawful.c1_word in
        let c' = lawful.c2_word in
        by_form (λ (n : ℕ). r.form ≡ n → written w r x ≡ holds (written_band w r) x)
        (row (by_row 0 (sym all_words))
        (row (by_row 1 (form1 w width _ _ x c c' word))
        (row (by_row 2 (form2 w width _ _ x c c' word))
        (row (by_row 3 (form3 w width _ _ x c c' word))
        (row (by_row 4 (form4 w width _ _ x c c' word))
        (row (by_row 5 (form5 w width _ _ x c c' word))
        (row (by_row 6 (form6 w width _ _ x c c' word)) (row (λ e. absurd (d e)) (row (by_row 8 (form8 w width _ _ x c c' word)) end)))))))))
        (λ n h e. past_rows w r x (rw e h) ∙ sym (ap (λ (b : Band). holds b x) (past_bands w r (rw e h)) ∙ all_words)) r.form refl

    -- the sense turns the side
    by_side : holds (band_of w r) x ≡ cond (eqb r.sense 0) (holds (written_band w r) x) (not (holds (written_band w r) x))
    unfolding band_of by_sense
    by_side =
        side_holds (seamless w (written_band w r)) (eqb r.sense 0) x
        ∙ ap (λ (v : Bool). cond (eqb r.sense 0) v (not v)) (seam_law w (written_band w r) row_words x word)

    -- a word meets the rule exactly when it is on the holding side of its band
    pub band_law : (r.form ≡ 7 → ⊥) → holds (band_of w r) x ≡ meets w r x
    unfolding meets
    band_law d = by_side ∙ ap (λ (v : Bool). cond (eqb r.sense 0) v (not v)) (sym (written_law d))

    -- the band of a bit rule fails no word
    pub bit_band : r.form ≡ 7 → holds (band_of w r) x ≡ true
    unfolding written_bands
    bit_band e =
        by_side
        ∙ ap₂ (λ (s v : Bool). cond s v (not v)) (eq-eqb r.sense 0 (lawful.plain e))
        (ap (λ (b : Band). holds b x) (at_band w r 7 e) ∙ all_words)

  -- its ends are words, and no seam is left
  pub laid : Laid (top w) (band_of w r)
  unfolding band_of by_sense
  laid = side_laid _ (top w) (seamless_laid w (written_band w r) row_words) (eqb r.sense 0)

  -- the run around a failing word is the band's
  pub reach_law : (r.form ≡ 7 → ⊥) → (p : ℕ) → p ≤ top w → climb (holds (band_of w r)) (top w - p) p ≡ reach w r p
  unfolding reach
  reach_law d p h = climb_same (holds (band_of w r)) (meets w r) (top w - p) p (λ y a b. band_law y (omega arith) d)

  pub start_law : (r.form ≡ 7 → ⊥) → (p : ℕ) → p ≤ top w → sink (holds (band_of w r)) p ≡ start w r p
  unfolding start
  start_law d p h = sink_same (holds (band_of w r)) (meets w r) p (λ y a. band_law y (omega arith) d)

  -- at most two runs: one ends at an edge of the arc, and one at the top word
  pub two_runs : (r.form ≡ 7 → ⊥) → runs w r 0 ≤ 2
  unfolding runs
  two_runs d = count_two (ends w r) (suc (top w) - 0) 0 (edge b) (top w) (λ x a h e. place x (omega arith) e (ℕ_discrete x (top w)))
    where
      b : Band
      b = band_of w r

      place : (x : ℕ) → x ≤ top w → ends w r x ≡ true → Dec (x ≡ top w) → (x ≡ edge b) ⊎ (x ≡ top w)
      place x h e (yes t) = inr t
      place x h e (no t) =
          let (fails, next) = ends_below w r x t e in
          inl (run_ends b (top w) x laid (omega arith) (band_law x h d ∙ fails) (band_law (suc x) (omega arith) d ∙ next))
