-- A word passes the bands and the bits of a list of rules exactly when it fits; and it passes bands and bits that are turned
-- round exactly when it passes them where it stands on the wheel turned round. Assumes nothing.
use Rattle.std.proofs.Common.{◌≡◌, ℕ, ◌-◌, ◌≤◌, Bool, true, false, cond, ◌&&◌, eqb, List, [], ◌∷◌, map, refl, ap, ◌∙◌, ap₂, eq-eqb, ne_eqb}
use mathlib.Core.Bool.{and_assoc}
use native.Mathlib.Decide.{ℕ_discrete}
use Rattle.word.specs.Word.{top}
use Rattle.rule.specs.declared.Rule.{Rule}
use Rattle.rule.specs.Meaning.{AllLawful, Lawful, fits, meets, meets7}
use Rattle.rule.specs.declared.band.Band.{Band}
use Rattle.rule.specs.band.route.Band.{AllLaid, all_hold, band_of, holds, turned_band}
use Rattle.rule.proofs.band.Law as law
use Rattle.rule.proofs.band.Turn.{turned_holds}
use Rattle.rule.specs.declared.bits.Fixed.{Fixed}
use Rattle.rule.specs.bits.route.Fixed.{Tidy, Within, fixed_bits, turned_bits}
use Rattle.rule.proofs.bits.Joined.{fixed_bits_lem}
use Rattle.rule.proofs.bits.Turn.{turned_bits_lem}
use Rattle.search.specs.rows.route.Bands.{passes}

-- the bands of rules are laid
pub bands_laid : (w : ℕ) → 1 ≤ w → (rs : List Rule) → AllLawful w rs → AllLaid (top w) (map (band_of w) rs)
unfolding AllLaid AllLawful
bands_laid w h [] l = tt
bands_laid w h (r ∷ rs) l = (law.laid w h r l.0, bands_laid w h rs l.1)

module _ (w : ℕ) (width : 1 ≤ w) where
  -- a rule outside form 7 is left to its band, and one of form 7 to the bits
  shared : (r : Rule) → Lawful w r → (x : ℕ) → x ≤ top w → (a m : Bool)
      → ((holds (band_of w r) x && a) && (cond (eqb r.form 7) (meets w r x) true && m)) ≡ (meets w r x && (a && m))
  shared r l x h a m = go (ℕ_discrete r.form 7)
    where
      v : Bool
      v = meets w r x

      swap : (a v m : Bool) → (a && (v && m)) ≡ (v && (a && m))
      swap true true m = refl
      swap true false m = refl
      swap false true m = refl
      swap false false m = refl

      go : Dec (r.form ≡ 7) → ((holds (band_of w r) x && a) && (cond (eqb r.form 7) v true && m)) ≡ (v && (a && m))
      go (yes e) =
          ap₂ (λ (b c : Bool). (b && a) && (cond c v true && m)) (law.bit_band w width r l x h e) (eq-eqb r.form 7 e) ∙ swap a v m
      go (no e) =
          ap₂ (λ (b c : Bool). (b && a) && (cond c v true && m)) (law.band_law w width r l x h e) (ne_eqb r.form 7 e) ∙ and_assoc v a m

  joint : (rs : List Rule) → AllLawful w rs → (x : ℕ) → x ≤ top w → (all_hold (map (band_of w) rs) x && meets7 w rs x) ≡ fits w rs x
  unfolding all_hold meets7 fits AllLawful
  joint [] l x h = refl
  joint (r ∷ rs) l x h =
      shared r l.0 x h (all_hold (map (band_of w) rs) x) (meets7 w rs x) ∙ ap (λ (b : Bool). meets w r x && b) (joint rs l.1 x h)

  pub passes-fits : (rs : List Rule) → AllLawful w rs → (x : ℕ) → x ≤ top w → passes (map (band_of w) rs) (fixed_bits rs) x ≡ fits w rs x
  unfolding passes
  passes-fits rs l x h = ap (λ (b : Bool). all_hold (map (band_of w) rs) x && b) (fixed_bits_lem w rs x l) ∙ joint rs l x h

hold_turned : (t : ℕ) (bs : List Band) → AllLaid t bs → (x : ℕ) → x ≤ t → all_hold (map (turned_band t) bs) x ≡ all_hold bs (t - x)
unfolding all_hold AllLaid
hold_turned t [] l x h = refl
hold_turned t (b ∷ bs) l x h = ap₂ ◌&&◌ (turned_holds t b x l.0 h) (hold_turned t bs l.1 x h)

pub passes_turned : (w : ℕ) (bs : List Band) (f : Fixed) → AllLaid (top w) bs → Tidy f → Within w f → (x : ℕ) → x ≤ top w
    → passes (map (turned_band (top w)) bs) (turned_bits f) x ≡ passes bs f (top w - x)
unfolding passes
passes_turned w bs f laid tidy within x h = ap₂ ◌&&◌ (hold_turned (top w) bs laid x h) (turned_bits_lem w f x tidy within h)
