-- A band on the wheel of words turned round: a word is within an arc exactly when its turn is within the turned arc, whose
-- ends have changed places. Assumes nothing.
use Rattle.std.proofs.Common.{◌≡◌, ℕ, ◌-◌, ◌≤◌, Bool, cond, not, sym, ap, ◌∙◌, inl, inr, ⊎_elim, arith}
use Rattle.rule.specs.declared.band.Band.{Band}
use Rattle.rule.specs.band.route.Band.{Laid, holds, turned_band, within}
use Rattle.rule.proofs.band.Sides.{In, Out, is_in, is_out, sides}

within_turned : (t a b x : ℕ) → a ≤ t → b ≤ t → x ≤ t → within (t - b) (t - a) x ≡ within a b (t - x)
within_turned t a b x ha hb hx =
    ⊎_elim (λ i. is_in _ _ x (in_turned i) ∙ sym (is_in a b (t - x) i)) (λ o. is_out _ _ x (out_turned o) ∙ sym (is_out a b (t - x) o))
    (sides a b (t - x))
  where
    in_turned : In a b (t - x) → In (t - b) (t - a) x
    in_turned (inl i) = inl (omega arith, omega arith)
    in_turned (inr (inl i)) = inr (inr (omega arith, omega arith))
    in_turned (inr (inr i)) = inr (inl (omega arith, omega arith))

    out_turned : Out a b (t - x) → Out (t - b) (t - a) x
    out_turned (inl o) = inl (omega arith, omega arith)
    out_turned (inr (inl o)) = inr (inr (omega arith, omega arith))
    out_turned (inr (inr o)) = inr (inl (omega arith, omega arith))

pub turned_holds : (t : ℕ) (b : Band) (x : ℕ) → Laid t b → x ≤ t → holds (turned_band t b) x ≡ holds b (t - x)
unfolding holds turned_band
turned_holds t b x l h =
    ap (λ (v : Bool). cond b.inside (not v) v) (within_turned t b.from b.to x l.from_word l.to_word h)

pub turned_laid : (t : ℕ) (b : Band) → Laid t b → Laid t (turned_band t b)
unfolding turned_band
turned_laid t b l =
    record { from_word = omega arith; to_word = omega arith; no_seam = λ e. l.no_seam (omega (arith, l.from_word, l.to_word)) }
