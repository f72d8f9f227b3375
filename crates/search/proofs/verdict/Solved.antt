-- Where no word below low passes, a search from low finds what one from 0 does. On the wheel turned round that is the search down
-- from high, where no word above high passes. Assumes nothing.
use mathlib.Core.Path.{◌≡◌, refl, sym, ap, ap₂, ◌∙◌}
use mathlib.Core.Bool.{Bool, false}
use mathlib.Core.List.{List, map}
use Prim.Native.Nat.{ℕ, suc, ◌-◌, ◌≤◌, ◌<◌}
use native.Mathlib.Nat.{sub_self}
use native.Mathlib.Decide.{dec_lt}
use native.Mathlib.Omega.{arith}
use Rattle.std.specs.Prelude.{Option}
use Rattle.std.specs.Prelude.{Some, None}
use Rattle.word.specs.Word.{top}
use Rattle.word.specs.Search.{first, last}
use Rattle.word.proofs.Search.{first_at, first_none}
use Rattle.word.proofs.Searched.{first_is, first_nothing}
use Rattle.word.proofs.Turn.{back, turned_back}
use Rattle.rule.specs.declared.band.Band.{Band}
use Rattle.rule.specs.band.route.Band.{AllLaid, turned_band}
use Rattle.rule.specs.declared.bits.Fixed.{Fixed}
use Rattle.rule.specs.bits.route.Fixed.{Tidy, Within, turned_bits}
use Rattle.search.specs.rows.route.Bands.{passes}
use Rattle.search.proofs.rows.Passes.{passes_turned}
use Rattle.search.specs.verdict.Kept.{keeps, verdict_of}
use Rattle.search.specs.verdict.route.OnBands.{Ends, kept_by}

-- a word is on one side of a place or on the other
either : {A : Type 0} (x p : ℕ) → (x < p → A) → (p ≤ x → A) → A
either x p below above = elim (dec_lt x p) [ yes l ↦ below l | no l ↦ above (omega arith) ]

module _ (f : ℕ → Bool) (t : ℕ) where
  first_later : (low : ℕ) → low ≤ t → ((x : ℕ) → x < low → f x ≡ false) → first f (suc t - low) low ≡ first f (suc t) 0
  first_later low h n = go (first f (suc t - low) low) refl
    where
      go : (r : Option ℕ) → first f (suc t - low) low ≡ r → r ≡ first f (suc t) 0
      go (Some x) e =
          let i = first_is f (suc t - low) low x e in
          sym (first_at f (suc t) 0 x (omega arith) (omega (arith, i.high)) i.passes (λ y a b. either y low (n y) (λ c. i.none_before y c b)))
      go None e =
          sym (first_none f (suc t) 0 (λ y a b. either y low (n y) (λ c. first_nothing f (suc t - low) low e y c (omega arith))))

module _ (w : ℕ) (bs : List Band) (f : Fixed) (low high : ℕ) (ends : Ends w bs f low high) where
  pub smallest_is : first (passes bs f) (suc (top w) - low) low ≡ first (passes bs f) (suc (top w)) 0
  smallest_is = first_later (passes bs f) (top w) low ends.low_word ends.none_below

  module _ (laid : AllLaid (top w) bs) (tidy : Tidy f) (within : Within w f) where
    abbrev turned : ℕ → Bool
    turned = passes (map (turned_band (top w)) bs) (turned_bits f)

    none_turned : (x : ℕ) → x < top w - high → turned x ≡ false
    none_turned x h = passes_turned w bs f laid tidy within x (omega arith) ∙ ends.none_above (top w - x) (omega arith) (omega arith)

    pub largest_is : back (top w) (first turned (suc (top w) - (top w - high)) (top w - high)) ≡ last (passes bs f) (suc (top w))
    largest_is =
        let all : suc (top w) ≡ suc (top w) - (top w - top w) = omega arith in
        ap (back (top w)) (first_later turned (top w) (top w - high) (omega arith) none_turned)
        ∙ ap₂ (λ (k p : ℕ). back (top w) (first turned k p)) all (sym (sub_self (top w)))
        ∙ sym (turned_back (top w) (passes bs f) turned (passes_turned w bs f laid tidy within) (top w) (omega arith))

-- where no word passes, none is kept
pub none_kept : (w : ℕ) (bs : List Band) (f : Fixed) → ((x : ℕ) → x ≤ top w → passes bs f x ≡ false) → keeps 0 0 0 ≡ kept_by w bs f
unfolding kept_by verdict_of
none_kept w bs f n =
    ap (λ (r : Option ℕ). verdict_of r (last (passes bs f) (suc (top w)))) (sym (first_none (passes bs f) (suc (top w)) 0 (λ y a b. n y (omega arith))))
