-- What is held says which number comes before the table, and that where none does the width is one, the rules in force are lawful, what is
-- kept is what they give, and their bands may be swept. Assumes nothing.
use mathlib.Core.Path.{◌≡◌, refl, sym, ap, ap₂, ◌∙◌, subst, subst₂}
use mathlib.Core.Bool.{Bool, true, false}
use mathlib.Core.List.{List, map, ◌++◌}
use Prim.Native.Nat.{ℕ, ◌≤◌}
use native.Mathlib.Omega.{arith}
use borrow.Author.Tests.{eq-eqb, leb-true}
use lib.ListN.{length, length-map, take}
use lib.Seq.{take-take}
use Rattle.word.specs.Edition.{terms}
use Rattle.word.specs.Word.{IsWidth, top}
use Rattle.word.proofs.Editions.{widest_held}
use Rattle.word.proofs.Tests.{both_pass}
use Rattle.rule.specs.declared.Rule.{Rule}
use Rattle.rule.specs.Meaning.{AllLawful, RULES}
use Rattle.rule.specs.declared.band.Band.{Band}
use Rattle.rule.specs.band.route.Band.{AllLaid, band_of}
use Rattle.rule.specs.declared.bits.Fixed.{Fixed}
use Rattle.rule.specs.bits.route.Fixed.{Tidy, Within, fixed_bits}
use Rattle.rule.proofs.bits.Joined.{fixed_tidy, fixed_within}
use Rattle.search.specs.rows.route.Bands.{Lie}
use Rattle.search.proofs.rows.Passes.{bands_laid}
use Rattle.search.specs.declared.verdict.Kept.{Kept}
use Rattle.search.specs.verdict.Kept.{kept}
use Rattle.search.specs.verdict.route.OnBands.{Bounds, kept_by}
use Rattle.search.proofs.verdict.Rules.{kept_bounds, kept_is}
use Rattle.search.specs.rows.route.Rows.{band_in, bands_in, rule_in, rules_in}
use Rattle.sheet.specs.declared.slate.Head.{Head}
use Rattle.sheet.specs.slate.route.Held.{Beside, Drawn, Held, Room, Waits}
use Rattle.sheet.specs.slate.route.Numbers.{before}
use Rattle.sheet.specs.slate.route.Shape.{same_kept, stands_so, well_shaped}
use Rattle.sheet.proofs.slate.Cleared.{take-map}
use Rattle.sheet.proofs.slate.Shaped.{Shaped, count_low, first_lawful, passes_same, shaped_so_lem}
use Rattle.sheet.proofs.slate.Told.{shape, told}

before_zero : (b : Bool) (w : ℕ) → before b w ≡ 0 → (b ≡ true) × (w ≡ 0 → ⊥)
unfolding before
before_zero false w e = absurd (omega arith)
before_zero true w e = (refl, λ z. omega (arith, rw (eq-eqb w 0 z) at e))

-- bands and bits that are those of lawful rules may be swept
pub record Swept (w n : ℕ) (bands : List Band) (fixed : Fixed) : Type 0 where
  pub lie : Lie (top w) n bands
  pub tidy : Tidy fixed
  pub within : Within w fixed

pub swept : (w n : ℕ) (bands : List Band) (fixed : Fixed) (rs : List Rule) → 1 ≤ w → n ≤ RULES → length bands ≡ RULES
    → AllLawful w (take n rs) → Drawn w n n rs bands fixed → Swept w n bands fixed
swept w n bands fixed rs low few places lawful d =
    record {
      lie = record { places = places; count = few; laid = subst (AllLaid (top w)) (sym d.own) (bands_laid w low (take n rs) lawful) };
      tidy = subst Tidy (sym d.bits) (fixed_tidy (take n rs));
      within = subst (Within w) (sym d.bits) (fixed_within w (take n rs) lawful);
    }

-- and what is kept of them is what the rules give
pub kept_found : (w n : ℕ) (rs : List Rule) (bands : List Band) (fixed : Fixed) → 1 ≤ w → AllLawful w (take n rs) → Drawn w n n rs bands fixed
    → {k : Kept} → k ≡ kept_by w (take n bands) fixed → k ≡ kept w (take n rs)
kept_found w n rs bands fixed low lawful d found = found ∙ ap₂ (kept_by w) d.own d.bits ∙ kept_is w low (take n rs) lawful

-- the first n bands are those of the first n rules
pub first_drawn : (w given : ℕ) (rs : List Rule) (bands : List Band) → take given bands ≡ map (band_of w) (take given rs)
    → (n : ℕ) → n ≤ given → {f : Fixed} → f ≡ fixed_bits (take n rs) → Drawn w n n rs bands f
first_drawn w given rs bands own n low bits =
    record {
      own = sym (take-take n given bands low) ∙ ap (take n) own ∙ take-map (band_of w) n (take given rs) ∙ ap (map (band_of w)) (take-take n given rs low);
      bits = bits;
    }

-- a width of the edition is one that a machine word holds
pub width_in : (h : Head) → (h.opening.width ≡ 0 → ⊥) → h.opening.width ≤ (terms h.opening.edition).widest → IsWidth h.opening.width
width_in h z high = record { low = omega arith; high = omega (arith, high, widest_held h.opening.edition) }

-- as many rules and bands as rows
module _ {rows : List (List ℕ)} {marks : List ℕ} (room : Room rows marks) where
  pub rules_places : length (rules_in rows) ≡ RULES
  rules_places = length-map rows rule_in ∙ room.rows_places

  pub bands_places : length (bands_in rows) ≡ RULES
  bands_places = length-map rows band_in ∙ room.rows_places

-- where there is a sheet, blank or not, what waits lies after what is in force, and nothing after it
pub waits_if : {h : Head} {rows : List (List ℕ)} {marks : List ℕ} → Held h rows marks → h.stands ≡ true → Waits h (rules_in rows) marks
unfolding stands_so
waits_if {h} {rows} {marks} held e =
    let rs = rules_in rows in
    let s = shaped_so_lem h rs marks (rules_places held.room) held.room.marks_places (both_pass (well_shaped h rs marks) _ (sym held.tested ∙ e)).0 in
    record {
      rules_places = rules_places held.room;
      marks_places = held.room.marks_places;
      given_low = count_low h rs marks (rules_places held.room) held.room.marks_places s;
      given_high = s.given_high;
      marks_high = s.marks_high;
      rules_after = s.rules_after;
      marks_after = s.marks_after;
    }

module _ {h : Head} {rows : List (List ℕ)} {marks : List ℕ} (held : Held h rows marks) (e : before h.stands h.opening.width ≡ 0) where
  abbrev rs : List Rule
  rs = rules_in rows

  abbrev bands : List Band
  bands = bands_in rows

  pub stands-true : h.stands ≡ true
  stands-true = (before_zero h.stands h.opening.width e).0

  pub open_sheet : h.opening.width ≡ 0 → ⊥
  open_sheet = (before_zero h.stands h.opening.width e).1

  passes : (shape h rs marks ≡ true) × (same_kept h.kept (kept h.opening.width (take h.counts.count rs)) ≡ true)
  passes = both_pass (shape h rs marks) _ (sym (told h rs marks open_sheet) ∙ sym held.tested ∙ stands-true)

  pub shape_so : Shaped h rs marks
  shape_so = shaped_so_lem h rs marks (rules_places held.room) held.room.marks_places (both_pass (well_shaped h rs marks) _ passes.0).0

  pub width_so : IsWidth h.opening.width
  width_so = width_in h open_sheet (leb-true h.opening.width _ (both_pass (well_shaped h rs marks) _ passes.0).1)

  pub low_so : h.counts.count ≤ h.counts.given
  low_so = count_low h rs marks (rules_places held.room) held.room.marks_places shape_so

  pub lawful_so : AllLawful h.opening.width (take h.counts.count rs)
  lawful_so = first_lawful h rs marks (rules_places held.room) held.room.marks_places shape_so h.counts.count low_so

  pub kept_so : h.kept ≡ kept h.opening.width (take h.counts.count rs)
  kept_so = passes_same h.kept _ passes.1

  pub waits_so : Waits h rs marks
  waits_so = waits_if held stands-true

  pub beside_so : Beside h rows
  beside_so = held.beside stands-true open_sheet

  pub drawn_so : Drawn h.opening.width h.counts.count h.counts.count rs bands h.fixed
  drawn_so = let d = beside_so.drawn in first_drawn h.opening.width h.counts.given rs bands d.own h.counts.count low_so d.bits

  -- what is kept bounds what is kept with rules more
  pub bounds_so : (n : ℕ) (qs us : List Rule) (bs : List Band) (fixed : Fixed) → take n qs ≡ take h.counts.count rs ++ us
      → AllLawful h.opening.width (take n qs) → Drawn h.opening.width n n qs bs fixed → Bounds h.opening.width (take n bs) fixed h.kept
  bounds_so n qs us bs fixed more lawful d =
      let w = h.opening.width in
      let old = take h.counts.count rs in
      let rises = kept_bounds w width_so.low old us (subst (AllLawful w) more lawful) in
      subst₂ (λ (cs : List Band) (f : Fixed). Bounds w cs f h.kept) (sym d.own) (sym d.bits)
      (subst (λ (l : List Rule). Bounds w (map (band_of w) l) (fixed_bits l) h.kept) (sym more)
      (subst (Bounds w (map (band_of w) (old ++ us)) (fixed_bits (old ++ us))) (sym kept_so) rises))
