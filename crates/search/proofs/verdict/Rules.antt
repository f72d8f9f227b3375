-- What is kept of the bands and bits of rules is what is kept of the rules; and a rule more leaves only words between the old
-- ends, since a word that fits the longer list fits the shorter. Assumes nothing.
use mathlib.Core.Path.{◌≡◌, refl, ap, ap₂, ◌∙◌}
use mathlib.Core.Bool.{Bool, true, false, ◌&&◌, cond}
use mathlib.Core.List.{List, [], ◌∷◌, map, ◌++◌}
use Prim.Native.Nat.{ℕ, zero, suc, ◌^◌, ◌≤◌, ◌<◌}
use native.Mathlib.Omega.{arith}
use lib.Dec.{eqb}
use Rattle.word.specs.Word.{top}
use Rattle.std.specs.Prelude.{Option}
use Rattle.std.specs.Prelude.{Some, None}
use Rattle.word.specs.Search.{first, last}
use Rattle.word.proofs.Search.{first_same}
use Rattle.word.proofs.Searched.{first_is, first_nothing, last_is, last_nothing}
use Rattle.word.proofs.Widths.{top-suc}
use Rattle.rule.specs.declared.Rule.{Rule}
use Rattle.rule.specs.Meaning.{AllLawful, fits, meets}
use Rattle.rule.specs.declared.band.Band.{Band}
use Rattle.rule.specs.band.route.Band.{band_of}
use Rattle.rule.specs.declared.bits.Fixed.{Fixed}
use Rattle.rule.specs.bits.route.Fixed.{fixed_bits}
use Rattle.search.specs.rows.route.Bands.{passes}
use Rattle.search.proofs.rows.Passes.{passes-fits}
use Rattle.search.specs.verdict.Kept.{kept, verdict_of}
use Rattle.search.specs.verdict.route.OnBands.{Bounds, Ends, kept_by}

last_same : (f g : ℕ → Bool) (k : ℕ) → ((y : ℕ) → y < k → f y ≡ g y) → last f k ≡ last g k
unfolding last
last_same f g zero h = refl
last_same f g (suc k) h = go (g k) (h k (omega arith)) refl (last_same f g k (λ y b. h y (omega arith)))
  where
    go : (b : Bool) → f k ≡ g k → g k ≡ b → last f k ≡ last g k → last f (suc k) ≡ last g (suc k)
    go true e d later = rw (e ∙ d, last) (rw (d, last))
    go false e d later = rw (e ∙ d, last) (rw (d, last) later)

-- the whole wheel is where a search may always start
pub whole_wheel : (w : ℕ) (bs : List Band) (f : Fixed) → Ends w bs f 0 (top w)
whole_wheel w bs f =
    record { low_word = omega arith; high_word = omega arith; none_below = λ x h. absurd (omega arith); none_above = λ x h l. absurd (omega arith) }

-- a word that does not fit does not fit a longer list
fewer : (w : ℕ) (rs us : List Rule) (x : ℕ) → fits w rs x ≡ false → fits w (rs ++ us) x ≡ false
unfolding fits
fewer w [] us x e = let z : ◌≡◌ {A = ℕ} 0 1 = cc in absurd (omega arith)
fewer w (r ∷ rs) us x e = go (meets w r x) (fewer w rs us x) e
  where
    go : (b : Bool) → (fits w rs x ≡ false → fits w (rs ++ us) x ≡ false) → (b && fits w rs x) ≡ false → (b && fits w (rs ++ us) x) ≡ false
    go true later d = later d
    go false later d = refl

module _ (w : ℕ) (width : 1 ≤ w) where
  pub kept_is : (rs : List Rule) → AllLawful w rs → kept_by w (map (band_of w) rs) (fixed_bits rs) ≡ kept w rs
  unfolding kept_by kept
  kept_is rs l =
      ap₂ verdict_of
      (first_same _ _ (suc (top w)) 0 (λ y a b. passes-fits w width rs l y (omega arith)) ∙ ap (λ (k : ℕ). first (fits w rs) k 0) (top-suc w))
      (last_same _ _ (suc (top w)) (λ y h. passes-fits w width rs l y (omega arith)) ∙ ap (last (fits w rs)) (top-suc w))

  module _ (rs us : List Rule) (lawful : AllLawful w (rs ++ us)) where
    abbrev more : ℕ → Bool
    more = passes (map (band_of w) (rs ++ us)) (fixed_bits (rs ++ us))

    misses : (x : ℕ) → x ≤ top w → fits w rs x ≡ false → more x ≡ false
    misses x h e = passes-fits w width (rs ++ us) lawful x h ∙ fewer w rs us x e

    some : (b : Bool) → ◌≡◌ {A = ℕ} (cond b 1 2) 0 → ⊥
    some true e = omega arith
    some false e = omega arith

    pub kept_bounds : Bounds w (map (band_of w) (rs ++ us)) (fixed_bits (rs ++ us)) (kept w rs)
    unfolding kept verdict_of
    kept_bounds = go (first (fits w rs) (2 ^ w) 0) (last (fits w rs) (2 ^ w)) refl refl
      where
        go : (a b : Option ℕ) → first (fits w rs) (2 ^ w) 0 ≡ a → last (fits w rs) (2 ^ w) ≡ b
            → Bounds w (map (band_of w) (rs ++ us)) (fixed_bits (rs ++ us)) (verdict_of a b)
        go None b e d =
            record {
              none = λ z x h. misses x h (first_nothing (fits w rs) (2 ^ w) 0 e x (omega arith) (omega (arith, top-suc w)));
              ends = λ n. absurd (n refl);
            }
        go (Some a) None e d =
            record { none = λ z x h. misses x h (last_nothing (fits w rs) (2 ^ w) d x (omega (arith, top-suc w))); ends = λ n. absurd (n refl) }
        go (Some a) (Some b) e d =
            let i = first_is (fits w rs) (2 ^ w) 0 a e in
            let l = last_is (fits w rs) (2 ^ w) b d in
            record {
              none = λ z. absurd (some (eqb a b) z);
              ends = λ n.
                  record {
                    low_word = omega (arith, i.high, top-suc w);
                    high_word = omega (arith, l.high, top-suc w);
                    none_below = λ x h. misses x (omega (arith, i.high, top-suc w)) (i.none_before x (omega arith) h);
                    none_above = λ x h t. misses x t (l.none_after x h (omega (arith, top-suc w)));
                  };
            }
