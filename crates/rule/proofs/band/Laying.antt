-- The table of bands read at one form, and a band laid without a seam. Assumes nothing.
use Rattle.std.proofs.Common.{◌≡◌, ℕ, suc, ◌≤◌, Bool, cond, get_or, refl, ap, eq-eqb, ne_eqb}
use lib.ListN.{get_or-eq_default}
use Rattle.word.specs.Word.{top, minus}
use Rattle.rule.specs.declared.Rule.{Rule}
use Rattle.rule.specs.Meaning.{FORMS}
use Rattle.rule.proofs.Forms.{Rows, by_form, row}
use Rattle.rule.specs.declared.band.Band.{Band}
use Rattle.rule.specs.band.route.Band.{by_sense, other_side, seamless, span, wheel, written_band, written_bands}

module _ (w : ℕ) (b : Band) where
  pub whole_band : minus w b.to b.from ≡ top w → seamless w b ≡ wheel (top w) b.inside
  unfolding seamless
  whole_band e = ap (λ (t : Bool). cond t (wheel (top w) b.inside) b) (eq-eqb _ (top w) e)

  pub part_band : (minus w b.to b.from ≡ top w → ⊥) → seamless w b ≡ b
  unfolding seamless
  part_band e = ap (λ (t : Bool). cond t (wheel (top w) b.inside) b) (ne_eqb _ (top w) e)

module _ (w : ℕ) (r : Rule) where
  pub at_band : (k : ℕ) → r.form ≡ k → written_band w r ≡ get_or (written_bands w r.c1 r.c2) k (span 0 (top w))
  unfolding written_band
  at_band k e = ap (λ (n : ℕ). get_or (written_bands w r.c1 r.c2) n (span 0 (top w))) e

  pub past_bands : suc FORMS ≤ r.form → written_band w r ≡ span 0 (top w)
  unfolding written_band written_bands
  past_bands h = get_or-eq_default (written_bands w r.c1 r.c2) (span 0 (top w)) h

  -- a form has this band too, or is not the rule's
  pub no_band : Rows (λ (n : ℕ). r.form ≡ n → written_band w r ≡ span 0 (top w)) (suc FORMS) 1 → written_band w r ≡ span 0 (top w)
  unfolding written_bands
  no_band rows =
      by_form (λ (n : ℕ). r.form ≡ n → written_band w r ≡ span 0 (top w)) (row (at_band 0) rows) (λ n h e. past_bands (rw e h)) r.form refl

-- a negated rule's side
pub negated_side : (s : ℕ) (b : Band) → (s ≡ 0 → ⊥) → other_side b ≡ by_sense s b
unfolding by_sense
negated_side s b d = rw (ne_eqb s 0 d)
