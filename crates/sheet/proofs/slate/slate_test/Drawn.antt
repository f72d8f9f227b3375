-- A sheet whose bands are drawn, and whose last rule in force is noted: the rules stay, their bands may be swept, and what is found of them
-- is what the rules give. Assumes nothing.
use mathlib.Core.Path.{◌≡◌, sym, ap, ◌∙◌, subst}
use mathlib.Core.Bool.{Bool}
use mathlib.Core.List.{List, map}
use Prim.Native.Nat.{ℕ, ◌≤◌}
use native.Mathlib.Omega.{arith}
use lib.ListN.{length, length-map, take}
use Rattle.word.specs.Word.{IsWidth}
use Rattle.rule.specs.declared.Rule.{Rule}
use Rattle.rule.specs.Meaning.{AllLawful, RULES}
use Rattle.rule.specs.band.route.Band.{band_of}
use Rattle.rule.specs.declared.bits.Fixed.{Fixed}
use Rattle.rule.specs.bits.route.Fixed.{fixed_bits}
use Rattle.search.specs.rows.route.Rows.{band_in, bands_in, drawn, rules_in}
use Rattle.search.proofs.rows.Drawn.{drawn_bands, drawn-length, drawn_rules}
use Rattle.search.specs.declared.verdict.Kept.{Kept}
use Rattle.search.specs.verdict.Kept.{kept}
use Rattle.search.specs.verdict.route.OnBands.{kept_by}
use Rattle.sheet.specs.declared.slate.Head.{Head}
use Rattle.sheet.specs.slate.route.Held.{Beside, Drawn, Room, found_to}
use Rattle.search.specs.noting.route.Note.{noting}
use Rattle.sheet.specs.slate.route.Notes.{Notes}
use Rattle.sheet.proofs.slate.Holding.{Swept, first_drawn, kept_found, swept}
use Rattle.sheet.proofs.slate.Noted.{bands_stay, drawn_unknown, one_noted, rows_stay, rules_stay}

module _ (h : Head) {rows : List (List ℕ)} {marks : List ℕ} (room : Room rows marks) (width : IsWidth h.opening.width) (low : h.counts.count ≤ h.counts.given)
    (few : h.counts.given ≤ RULES) (lawful : (n : ℕ) → n ≤ h.counts.given → AllLawful h.opening.width (take n (rules_in rows))) (rows₁ : List (List ℕ))
    (draws : rows₁ ≡ drawn h.opening.width h.counts.given rows) where
  abbrev w : ℕ
  w = h.opening.width

  abbrev n : ℕ
  n = h.counts.count

  same_rules : rules_in rows₁ ≡ rules_in rows
  same_rules = ap rules_in draws ∙ drawn_rules w h.counts.given rows

  own : take h.counts.given (bands_in rows₁) ≡ map (band_of w) (take h.counts.given (rules_in rows₁))
  own =
      ap (λ (l : List (List ℕ)). take h.counts.given (bands_in l)) draws
      ∙ drawn_bands w width h.counts.given rows (lawful h.counts.given (omega arith))
      ∙ ap (λ (rs : List Rule). map (band_of w) (take h.counts.given rs)) (sym same_rules)

  pub rows_long : length rows₁ ≡ RULES
  rows_long = ap length draws ∙ drawn-length w h.counts.given rows ∙ room.rows_places

  module _ (f : Fixed) (bits : f ≡ fixed_bits (take h.counts.count (rules_in rows₁))) where
    bands_drawn : Drawn w n n (rules_in rows₁) (bands_in rows₁) f
    bands_drawn = first_drawn w h.counts.given (rules_in rows₁) (bands_in rows₁) own n low bits

    lawful_still : AllLawful w (take n (rules_in rows₁))
    lawful_still = subst (λ (rs : List Rule). AllLawful w (take n rs)) (sym same_rules) (lawful n low)

    pub may_sweep : Swept w n (bands_in rows₁) f
    may_sweep = swept w n (bands_in rows₁) f (rules_in rows₁) width.low (omega (arith, low, few)) (length-map rows₁ band_in ∙ rows_long) lawful_still bands_drawn

    module _ (k : Kept) (found : k ≡ kept_by h.opening.width (take h.counts.count (bands_in rows₁)) f) where
      pub kept_so : k ≡ kept w (take n (rules_in rows))
      kept_so = kept_found w n (rules_in rows₁) (bands_in rows₁) f width.low lawful_still bands_drawn found ∙ ap (λ (rs : List Rule). kept w (take n rs)) same_rules

      module _ (rows₂ : List (List ℕ)) (notes : rows₂ ≡ noting k f rows₁ h.counts.count) where
        pub rules_same : rules_in rows₂ ≡ rules_in rows
        rules_same = ap rules_in notes ∙ rules_stay k f rows₁ n ∙ same_rules

        pub room_still : Room rows₂ marks
        room_still = record { rows_places = ap length notes ∙ rows_stay k f rows₁ n ∙ rows_long; marks_places = room.marks_places }

        pub beside : (b : Bool) → Beside (found_to h b f) rows₂
        beside b =
            let rules_too = rules_same ∙ sym same_rules in
            let bands_too = ap bands_in notes ∙ bands_stay k f rows₁ n in
            let noted = subst (Notes w h.counts.given) (sym draws) (drawn_unknown w width.low h.counts.given rows) in
            record {
              drawn = record {
                own = ap (take h.counts.given) bands_too ∙ own ∙ ap (λ (rs : List Rule). map (band_of w) (take h.counts.given rs)) (sym rules_too);
                bits = bits ∙ ap (λ (rs : List Rule). fixed_bits (take n rs)) (sym rules_too);
              };
              noted = subst (Notes w h.counts.given) (sym notes)
                  (one_noted w width.low h.counts.given rows₁ noted n (omega (arith, rows_long, low, few)) k f (kept_so ∙ ap (λ (rs : List Rule). kept w (take n rs)) (sym same_rules)) bits);
            }
