-- The tests of one link by bands and bits are those of the definition: a rule's band fails just the words that fail the rule, that
-- of a form 7 rule fails none, and the fixed bits are had by just the words that meet all form 7 rules. Assumes nothing.
use mathlib.Core.Path.{◌≡◌, refl, sym, ap, ap₂, ◌∙◌}
use mathlib.Core.Bool.{Bool, true, false, not, ◌&&◌, ◌||◌}
use mathlib.Core.List.{List, [], ◌∷◌, map}
use Prim.Native.Nat.{ℕ, zero, suc, ◌≤◌, ◌<◌}
use native.Mathlib.Decide.{ℕ_discrete}
use native.Mathlib.Omega.{arith}
use borrow.Author.Tests.{eq-eqb, le-ltb, lt-ltb, ne_eqb}
use lib.Dec.{eqb}
use lib.ListN.{get_or, length, length-map, take}
use lib.Seq.{get_or-take, length-take-le}
use Rattle.word.specs.Word.{top}
use Rattle.rule.specs.declared.Rule.{Rule}
use Rattle.rule.specs.Meaning.{AllLawful, Lawful, meets, meets7}
use Rattle.rule.specs.declared.band.Band.{Band}
use Rattle.rule.specs.band.route.Band.{band_of, holds}
use Rattle.rule.proofs.band.Law.{band_law, bit_band}
use Rattle.rule.specs.bits.route.Fixed.{fixed_bits, has_bits}
use Rattle.rule.proofs.bits.Joined.{fixed_bits_lem}
use Rattle.chain.specs.Links.{BITS, link, nth}
use Rattle.search.specs.rows.route.Bands.{Lie}
use Rattle.checker.specs.covering.Check.{names_bits, names_rule, right_reason}
use Rattle.checker.proofs.covering.EveryWord.{every_same, first_passes, misses}

or_false : (b : Bool) → b ≡ (b || false)
or_false true = refl
or_false false = refl

pub lawful_at : (w : ℕ) (rs : List Rule) (i : ℕ) → i < length rs → AllLawful w rs → Lawful w (nth rs i)
unfolding AllLawful
lawful_at w [] i h l = absurd (omega arith)
lawful_at w (r ∷ rs) zero h l = l.0
lawful_at w (r ∷ rs) (suc i) h l = lawful_at w rs i (omega arith) l.1

band_no : (w : ℕ) (rs : List Rule) (i : ℕ) (d : Band) → i < length rs → get_or (map (band_of w) rs) i d ≡ band_of w (nth rs i)
band_no w [] i d h = absurd (omega arith)
band_no w (r ∷ rs) zero d h = refl
band_no w (r ∷ rs) (suc i) d h = band_no w rs i d (omega arith)

-- rules whose bands lie in the first n places: n of them, and each with its band
module _ (w t n : ℕ) (bs : List Band) (rs : List Rule) (lie : Lie t n bs) (own : take n bs ≡ map (band_of w) rs) where
  pub rules_count : length rs ≡ n
  rules_count =
      sym (length-map rs (band_of w))
      ∙ ap length (sym own)
      ∙ length-take-le n bs (omega (arith, lie.places, lie.count))

  pub band_of_lem : (i : ℕ) (d : Band) → i < n → get_or bs i d ≡ band_of w (nth rs i)
  band_of_lem i d h =
      sym (get_or-take n bs i d h) ∙ ap (λ (l : List Band). get_or l i d) own ∙ band_no w rs i d (omega (arith, rules_count))

module _ (w : ℕ) (width : 1 ≤ w) (p q : ℕ) (order : p ≤ q) (word : q ≤ top w) where
  by_band : (r : Rule) → Lawful w r → misses (holds (band_of w r)) p q ≡ (not (eqb r.form 7) && misses (meets w r) p q)
  by_band r l = go (ℕ_discrete r.form 7)
    where
      go : Dec (r.form ≡ 7) → misses (holds (band_of w r)) p q ≡ (not (eqb r.form 7) && misses (meets w r) p q)
      go (yes e) =
          sym (first_passes (holds (band_of w r)) p q order (bit_band w width r l p (omega arith) e))
          ∙ sym (ap (λ (b : Bool). not b && misses (meets w r) p q) (eq-eqb r.form 7 e))
      go (no e) =
          every_same _ _ p q (λ x a b. ap not (band_law w width r l x (omega arith) e))
          ∙ sym (ap (λ (b : Bool). not b && misses (meets w r) p q) (ne_eqb r.form 7 e))

  module _ (rs : List Rule) (lawful : AllLawful w rs) (i : ℕ) where
    pub rule_reason : i < length rs → (i ≡ BITS → ⊥) → misses (holds (band_of w (nth rs i))) p q ≡ right_reason w rs (link p q i)
    unfolding right_reason names_rule names_bits
    rule_reason h n =
        by_band (nth rs i) (lawful_at w rs i h lawful)
        ∙ or_false _
        ∙ sym (ap₂ (λ (a b : Bool). (a && (not (eqb (nth rs i).form 7) && misses (meets w (nth rs i)) p q)) || (b && misses (meets7 w rs) p q))
        (lt-ltb i (length rs) h)
        (ne_eqb i BITS n))

    pub bits_reason : length rs ≤ i → i ≡ BITS → misses (has_bits (fixed_bits rs)) p q ≡ right_reason w rs (link p q i)
    unfolding right_reason names_rule names_bits
    bits_reason h e =
        every_same _ _ p q (λ x a b. ap not (fixed_bits_lem w rs x lawful))
        ∙ sym (ap₂ (λ (a b : Bool). (a && (not (eqb (nth rs i).form 7) && misses (meets w (nth rs i)) p q)) || (b && misses (meets7 w rs) p q))
        (le-ltb i (length rs) h)
        (eq-eqb i BITS e))

    pub no_reason : length rs ≤ i → (i ≡ BITS → ⊥) → false ≡ right_reason w rs (link p q i)
    unfolding right_reason names_rule names_bits
    no_reason h n =
        sym (ap₂ (λ (a b : Bool). (a && (not (eqb (nth rs i).form 7) && misses (meets w (nth rs i)) p q)) || (b && misses (meets7 w rs) p q))
        (le-ltb i (length rs) h)
        (ne_eqb i BITS n))
