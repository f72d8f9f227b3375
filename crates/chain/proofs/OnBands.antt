-- A step over the bands and the bits of rules is the paper's step, rule by rule: a band fails p exactly when its rule is one
-- outside form 7 that fails p, and its run around p is the rule's; and a word has the bits exactly when it meets all form 7 rules. Assumes
-- nothing.
use mathlib.Core.Path.{◌≡◌, refl, sym, ap, ap₂, ◌∙◌, subst}
use mathlib.Core.Bool.{Bool, true, false, not, cond, false≢true}
use mathlib.Core.List.{List, [], ◌∷◌, map, ◌++◌}
use Prim.Native.Nat.{ℕ, zero, suc, ◌+◌, ◌-◌, ◌≤◌, ◌<◌}
use native.Mathlib.Numerals.{add-one}
use native.Mathlib.Decide.{ℕ_discrete}
use native.Mathlib.Omega.{arith}
use borrow.Author.Tests.{eq-eqb, ne_eqb}
use lib.Dec.{ltb}
use lib.ListN.{get_or, length, take}
use lib.Seq.{length-take-le, take-suc}
use Rattle.std.specs.Prelude.{Option}
use Rattle.word.specs.Word.{top}
use Rattle.word.specs.Search.{climb, first, sink}
use Rattle.word.proofs.Search.{first_same}
use Rattle.rule.specs.declared.Rule.{Rule}
use Rattle.rule.specs.Meaning.{AllLawful, Lawful, start}
use Rattle.rule.specs.declared.band.Band.{Band}
use Rattle.rule.specs.band.route.Band.{band_of, holds}
use Rattle.rule.proofs.band.Law.{band_law, bit_band, reach_law, start_law}
use Rattle.rule.specs.declared.bits.Fixed.{Fixed}
use Rattle.rule.specs.bits.route.Fixed.{fixed_bits, has_bits}
use Rattle.rule.proofs.bits.Joined.{fixed_bits_lem}
use Rattle.search.specs.rows.route.Bands.{blank_band}
use Rattle.chain.specs.declared.Far.{Far}
use Rattle.chain.specs.declared.Far.TheVariants.{To, Nowhere}
use Rattle.chain.specs.Chain.{Plain}
use Rattle.chain.specs.Links.{before, blocks, further, furthest, furthest_of, gap, link, link_at, link_by, nth}
use Rattle.chain.specs.route.OnBands.{further_band, furthest_band, furthest_band_of, gap_on, link_on}
use Rattle.chain.proofs.Furthest.{Held, added, furthest_held}

module _ (w : ℕ) (width : 1 ≤ w) (p : ℕ) (word : p ≤ top w) where
  module _ (r : Rule) (lawful : Lawful w r) where
    blocks_band : blocks w r p ≡ not (holds (band_of w r) p)
    unfolding blocks
    blocks_band = go (ℕ_discrete r.form 7)
      where
        go : Dec (r.form ≡ 7) → blocks w r p ≡ not (holds (band_of w r) p)
        go (yes e) = rw (eq-eqb r.form 7 e, bit_band w width r lawful p word e)
        go (no e) = rw (ne_eqb r.form 7 e, band_law w width r lawful p word e)

    -- one rule more
    one_rule : (best : Far) (i : ℕ) → further_band (top w) p best i (band_of w r) ≡ added w r p i best
    unfolding further_band
    one_rule best i = go (holds (band_of w r) p) refl
      where
        go : (s : Bool) → holds (band_of w r) p ≡ s → further_band (top w) p best i (band_of w r) ≡ added w r p i best
        go true e = rw (e, further_band) (sym (rw (blocks_band ∙ ap not e, added)))
        go false e =
            rw (e, further_band)
            (ap (λ (q : ℕ). further best q i) (reach_law w width r lawful (λ d. false≢true (sym e ∙ bit_band w width r lawful p word d)) p word)
            ∙ sym (rw (blocks_band ∙ ap not e, added)))

  all_rules : (rs : List Rule) → AllLawful w rs → (best : Far) (i : ℕ)
      → furthest_band_of (top w) p best i (map (band_of w) rs) ≡ furthest_of w best i rs p
  unfolding furthest_band_of furthest_of AllLawful
  all_rules [] l best i = refl
  all_rules (r ∷ rs) l best i =
      ap (λ (far : Far). furthest_band_of (top w) p far (suc i) (map (band_of w) rs)) (one_rule r l.0 best i)
      ∙ all_rules rs l.1 (added w r p i best) (suc i)

  -- where the run of a band starts, and that of its rule
  abbrev band_start : List Rule → ℕ → ℕ
  band_start rs i = sink (holds (get_or (map (band_of w) rs) i blank_band)) p

  abbrev rule_start : List Rule → ℕ → ℕ
  rule_start rs i = start w (nth rs i) p

  one_start : (rs : List Rule) → AllLawful w rs → (i : ℕ) → Plain rs i → band_start rs i ≡ rule_start rs i
  unfolding AllLawful
  one_start [] l i d = absurd (omega (arith, d.there))
  one_start (r ∷ rs) l zero d = start_law w width r l.0 d.other p word
  one_start (r ∷ rs) l (suc i) d = one_start rs l.1 i (record { there = omega (arith, d.there); other = d.other })

  same_start : (rs : List Rule) → AllLawful w rs → (g : ℕ) (far : Far) → Held w rs p (length rs) far
      → link_by (band_start rs) p g far ≡ link_by (rule_start rs) p g far
  unfolding link_by
  same_start rs l g (To q i) b = ap (λ (s : ℕ). link s q i) (one_start rs l i b.fails.plain)
  same_start rs l g Nowhere b = refl

  -- the step over bands and bits is that of the rules
  pub link_law : (rs : List Rule) → AllLawful w rs → link_on (map (band_of w) rs) (fixed_bits rs) (top w) p ≡ link_at w rs p
  unfolding link_on gap_on furthest_band link_at gap furthest
  link_law rs l =
      ap₂ (link_by (band_start rs) p) (ap (before (top w)) (first_same _ _ (top w - p) (suc p) (λ y a b. fixed_bits_lem w rs y l))) (all_rules rs l Nowhere 0)
      ∙ same_start rs l (gap w rs p) (furthest w rs p) (furthest_held w rs p word)

module _ (t p : ℕ) where
  -- one band more, at the end
  of_snoc : (best : Far) (i n : ℕ) (bs : List Band) (b : Band) → i + length bs ≡ n
      → furthest_band_of t p best i (bs ++ b ∷ []) ≡ further_band t p (furthest_band_of t p best i bs) n b
  unfolding furthest_band_of
  of_snoc best i n [] b e = let d : i ≡ n = omega arith in ap (λ (j : ℕ). further_band t p best j b) d
  of_snoc best i n (c ∷ bs) b e = of_snoc (further_band t p best i c) (suc i) n bs b (omega arith)

  pub furthest_suc : (bs : List Band) (i : ℕ) (d : Band) → i < length bs
      → furthest_band (take (suc i) bs) t p ≡ further_band t p (furthest_band (take i bs) t p) i (get_or bs i d)
  unfolding furthest_band
  furthest_suc bs i d h =
      ap (furthest_band_of t p Nowhere 0) (take-suc bs i d h)
      ∙ of_snoc Nowhere 0 i (take i bs) (get_or bs i d) (omega (arith, length-take-le i bs (omega arith)))

  pub far_kept : (best : Far) (i : ℕ) (b : Band) → holds b p ≡ true → further_band t p best i b ≡ best
  unfolding further_band
  far_kept best i b e = rw (e, further_band)

  pub far_new : (best : Far) (i : ℕ) (b : Band) → holds b p ≡ false → further_band t p best i b ≡ further best (climb (holds b) (t - p) p) i
  unfolding further_band
  far_new best i b e = rw (e, further_band)

  -- a best so far is that of a band that fails p, one of the first n
  module _ (bs : List Band) where
    abbrev pub Failing : ℕ → Far → Type 0
    Failing n (To q i) = (i < n) × (holds (get_or bs i blank_band) p ≡ false)
    Failing n Nowhere = Unit {0}

    one_fails : (n : ℕ) (best : Far) → Failing n best → Failing (suc n) (further_band t p best n (get_or bs n blank_band))
    unfolding further_band further
    one_fails n best f = go (holds (get_or bs n blank_band) p) refl best f
      where
        q : ℕ
        q = climb (holds (get_or bs n blank_band)) (t - p) p

        go : (s : Bool) → holds (get_or bs n blank_band) p ≡ s → (far : Far) → Failing n far
            → Failing (suc n) (elim s as (λ (u : Bool). Far) [ true ↦ far | false ↦ further far q n ])
        go true e (To r i) f = (omega (arith, f.0), f.1)
        go true e Nowhere f = tt
        go false e (To r i) f = elim (ltb r q) as (λ (u : Bool). Failing (suc n) (cond u (To q n) (To r i))) [ true ↦ (omega arith, e) | false ↦ (omega (arith, f.0), f.1) ]
        go false e Nowhere f = (omega arith, e)

    pub furthest_fails : (n : ℕ) → n ≤ length bs → Failing n (furthest_band (take n bs) t p)
    unfolding furthest_band furthest_band_of
    furthest_fails zero h = tt
    furthest_fails (suc n) h =
        subst (Failing (suc n)) (sym (furthest_suc bs n blank_band h)) (one_fails n (furthest_band (take n bs) t p) (furthest_fails n (omega arith)))

-- no word lies above the top word
pub gap_top : (f : Fixed) (t p : ℕ) → p ≡ t → t ≡ gap_on f t p
unfolding gap_on before first
gap_top f t p e =
    let none : 0 ≡ t - p = omega arith in
    ap (λ (k : ℕ). before t (first (has_bits f) k (suc p))) none

pub gap_next : (f : Fixed) (t p : ℕ) (found : Option ℕ) → found ≡ first (has_bits f) (suc t - (p + 1)) (p + 1) → before t found ≡ gap_on f t p
unfolding gap_on
gap_next f t p found d =
    let left : suc t - (p + 1) ≡ t - p = omega arith in
    ap (before t) (d ∙ ap₂ (first (has_bits f)) left (add-one p))
