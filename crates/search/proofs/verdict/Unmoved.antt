-- One rule more moves nothing where it holds at the smallest and at the largest word that fit before and they have its bits: both fit
-- still, and no other word is new. Assumes nothing.
use mathlib.Core.Path.{◌≡◌, refl, sym, ap, ap₂, ◌∙◌}
use mathlib.Core.Bool.{true, ◌&&◌, and-true, cond}
use mathlib.Core.List.{List, [], ◌∷◌, map, ◌++◌}
use Prim.Native.Nat.{ℕ, suc, ◌^◌, ◌≤◌}
use native.Mathlib.Omega.{arith}
use lib.Dec.{eqb}
use Rattle.std.specs.Prelude.{Option}
use Rattle.std.specs.Prelude.{Some, None}
use Rattle.word.specs.Word.{top}
use Rattle.word.specs.Search.{first, last}
use Rattle.word.proofs.Search.{first_at, last_at}
use Rattle.word.proofs.Searched.{first_is, last_is}
use Rattle.word.proofs.Tests.{both_pass}
use Rattle.word.proofs.Widths.{top-suc}
use Rattle.rule.specs.declared.Rule.{Rule}
use Rattle.rule.specs.Meaning.{AllLawful, fits}
use Rattle.rule.specs.declared.band.Band.{Band}
use Rattle.rule.specs.band.route.Band.{all_hold, band_of, holds}
use Rattle.rule.specs.declared.bits.Fixed.{Fixed}
use Rattle.rule.specs.bits.route.Fixed.{fixed_bits, has_bits}
use Rattle.search.specs.rows.route.Bands.{passes}
use Rattle.search.proofs.rows.OneMore.{map_append}
use Rattle.search.proofs.rows.Passes.{passes-fits}
use Rattle.search.specs.declared.verdict.Kept.{Kept}
use Rattle.search.specs.verdict.Kept.{keeps, kept, verdict_of}
use Rattle.search.specs.verdict.route.OnBands.{Bounds, kept_by}
use Rattle.search.proofs.verdict.Rules.{kept_bounds, kept_is}

-- where any word fits, both ends do, and they say whether it is one
record Ends (w : ℕ) (rs : List Rule) (k : Kept) : Type 0 where
  one_or_many : k ≡ keeps (cond (eqb k.smallest k.largest) 1 2) k.smallest k.largest
  low_word : k.smallest ≤ top w
  high_word : k.largest ≤ top w
  low : fits w rs k.smallest ≡ true
  high : fits w rs k.largest ≡ true

kept_ends : (w : ℕ) (rs : List Rule) → ((kept w rs).verdict ≡ 0 → ⊥) → Ends w rs (kept w rs)
unfolding kept verdict_of
kept_ends w rs = go (first (fits w rs) (2 ^ w) 0) (last (fits w rs) (2 ^ w)) refl refl
  where
    go : (a b : Option ℕ) → first (fits w rs) (2 ^ w) 0 ≡ a → last (fits w rs) (2 ^ w) ≡ b → ((verdict_of a b).verdict ≡ 0 → ⊥) → Ends w rs (verdict_of a b)
    go None b e d n = absurd (n refl)
    go (Some a) None e d n = absurd (n refl)
    go (Some a) (Some b) e d n =
        let f = first_is (fits w rs) (2 ^ w) 0 a e in
        let l = last_is (fits w rs) (2 ^ w) b d in
        record {
          one_or_many = refl;
          low_word = omega (arith, f.high, top-suc w);
          high_word = omega (arith, l.high, top-suc w);
          low = f.passes;
          high = l.passes;
        }

-- the ends of what passes, where both pass
ends_kept : (w : ℕ) (bs : List Band) (f : Fixed) (k : Kept) → Bounds w bs f k → (k.verdict ≡ 0 → ⊥) → passes bs f k.smallest ≡ true → passes bs f k.largest ≡ true
    → keeps (cond (eqb k.smallest k.largest) 1 2) k.smallest k.largest ≡ kept_by w bs f
unfolding kept_by verdict_of
ends_kept w bs f k bounds some low high =
    let ends = bounds.ends some in
    sym (ap₂ verdict_of
    (first_at (passes bs f) (suc (top w)) 0 k.smallest (omega arith) (omega (arith, ends.low_word)) low (λ y a b. ends.none_below y b))
    (last_at (passes bs f) (suc (top w)) k.largest (omega (arith, ends.high_word)) high (λ y a b. ends.none_above y a (omega arith))))

hold_last : (bs : List Band) (b : Band) (x : ℕ) → all_hold bs x ≡ true → holds b x ≡ true → all_hold (bs ++ b ∷ []) x ≡ true
unfolding all_hold
hold_last [] b x all e = and-true (holds b x) ∙ e
hold_last (c ∷ bs) b x all e = let t = both_pass (holds c x) (all_hold bs x) all in ap₂ ◌&&◌ t.0 (hold_last bs b x t.1 e)

module _ (w : ℕ) (width : 1 ≤ w) (rs : List Rule) (u : Rule) (lawful : AllLawful w rs) (lawful_more : AllLawful w (rs ++ u ∷ [])) where
  abbrev more : List Rule
  more = rs ++ u ∷ []

  -- a word that fits passes with the rule, where the rule's band holds it and it has the bits
  still : (x : ℕ) → x ≤ top w → fits w rs x ≡ true → holds (band_of w u) x ≡ true → has_bits (fixed_bits more) x ≡ true → passes (map (band_of w) more) (fixed_bits more) x ≡ true
  unfolding passes
  still x h e b f =
      let old = (both_pass (all_hold (map (band_of w) rs) x) _ (passes-fits w width rs lawful x h ∙ e)).0 in
      ap₂ ◌&&◌ (ap (λ (bs : List Band). all_hold bs x) (map_append (band_of w) rs (u ∷ [])) ∙ hold_last (map (band_of w) rs) (band_of w u) x old b) f

  pub unmoved : ((kept w rs).verdict ≡ 0 → ⊥) → holds (band_of w u) (kept w rs).smallest ≡ true → holds (band_of w u) (kept w rs).largest ≡ true
      → has_bits (fixed_bits more) (kept w rs).smallest ≡ true → has_bits (fixed_bits more) (kept w rs).largest ≡ true → kept w rs ≡ kept w more
  unmoved some low high low_bits high_bits_lem =
      let k = kept w rs in
      let e = kept_ends w rs some in
      e.one_or_many
      ∙ ends_kept w (map (band_of w) more) (fixed_bits more) k (kept_bounds w width rs (u ∷ []) lawful_more) some
      (still k.smallest e.low_word e.low low low_bits) (still k.largest e.high_word e.high high high_bits_lem)
      ∙ kept_is w width more lawful_more
