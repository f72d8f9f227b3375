-- What is drawn of a record that is laid out: bands and bits pass just the words that fit the rules, and those of one rule alone just
-- the words that meet it. Assumes nothing.
use mathlib.Core.Path.{◌≡◌, refl, sym, ap, ap₂, ◌∙◌, subst}
use mathlib.Core.Bool.{Bool, true, false, false≢true, not, ◌&&◌, cond}
use mathlib.Core.List.{List, [], ◌∷◌, map}
use Prim.Native.Nat.{ℕ, ◌≤◌, ◌<◌}
use native.Mathlib.Omega.{arith}
use borrow.Author.Tests.{eq-eqb, ltb-true, not-true}
use lib.Dec.{eqb, ltb}
use lib.ListN.{length, length-map, length-set, set, take}
use Rattle.std.specs.Prelude.{Option, Some, None}
use Rattle.word.specs.Word.{IsWidth, top}
use Rattle.word.proofs.Tests.{both_pass}
use Rattle.rule.specs.declared.Rule.{Rule}
use Rattle.rule.specs.Meaning.{AllLawful, Lawful, RULES, fits, meets}
use Rattle.rule.specs.declared.band.Band.{Band}
use Rattle.rule.specs.declared.band.Run.{Run}
use Rattle.rule.specs.band.route.Band.{AllLaid, band_of}
use Rattle.rule.specs.declared.bits.Fixed.{Fixed}
use Rattle.rule.specs.declared.bits.Fixed.TheVariants.{Bits}
use Rattle.rule.specs.bits.route.Fixed.{Tidy, fixed_bits, fixed_from, joined}
use Rattle.rule.proofs.bits.Joined.{fixed_tidy}
use Rattle.search.specs.rows.route.Bands.{Lie, passes}
use Rattle.search.specs.rows.route.OfRules.{OfLawful}
use Rattle.search.specs.rows.route.Rows.{band_in, bands_in, row_of, rules_in}
use Rattle.search.proofs.rows.Reading.{bands_put}
use Rattle.search.proofs.rows.Passes.{bands_laid, passes-fits}
use Rattle.chain.specs.Links.{nth}
use Rattle.sheet.specs.declared.slate.Head.{Head}
use Rattle.sheet.specs.slate.route.Held.{Held}
use Rattle.sheet.specs.route.Held.{packed}
use Rattle.sheet.proofs.Holding.{packed_told}
use Rattle.checker.proofs.covering.EveryWord.{every_same}
use Rattle.picture.specs.declared.shade.Cell.{Cell}
use Rattle.picture.specs.declared.shade.Cell.TheVariants.{Fails, Meets, Nowhere, Partly}
use Rattle.picture.specs.shade.Cell.{cell_of}
use Rattle.picture.specs.column.Column.{columns, words_of}
use Rattle.picture.proofs.column.Columns.{column_ends}
use Rattle.picture.specs.Picture.{all_cell, column_cell, drawable, rule_cell}
use Rattle.picture.specs.route.Shown.{shown}

-- tests that agree on a stretch draw it alike
same_cell : (f g : ℕ → Bool) (p q : ℕ) → ((x : ℕ) → p ≤ x → x ≤ q → f x ≡ g x) → cell_of f p q ≡ cell_of g p q
unfolding cell_of
same_cell f g p q h =
    ap₂ (λ (a b : Bool). cond a Fails (cond b Meets Partly)) (every_same _ _ p q (λ x a b. ap not (h x a b))) (every_same f g p q h)

pub by_fits : (w : ℕ) → 1 ≤ w → (bands : List Band) (fixed : Fixed) (rs : List Rule) → OfLawful w bands fixed rs → (p q : ℕ) → q ≤ top w
    → cell_of (passes bands fixed) p q ≡ cell_of (fits w rs) p q
by_fits w one bands fixed rs o p q h =
    ap₂ (λ (b : List Band) (f : Fixed). cell_of (passes b f) p q) o.1.own o.1.bits
    ∙ same_cell (passes (map (band_of w) rs) (fixed_bits rs)) (fits w rs) p q (λ x a b. passes-fits w one rs o.0 x (omega arith))

pub by_meets : (w : ℕ) (r : Rule) (p q : ℕ) → cell_of (fits w (r ∷ [])) p q ≡ cell_of (meets w r) p q
unfolding fits
by_meets w r p q = same_cell (fits w (r ∷ [])) (meets w r) p q (λ x a b. and_true (meets w r x))
  where
    and_true : (b : Bool) → (b && true) ≡ b
    and_true true = refl
    and_true false = refl

-- a rule alone in the rows
module _ (w : ℕ) (width : IsWidth w) (r : Rule) (lawful : Lawful w r) (rows rows' : List (List ℕ)) (room : length rows ≡ RULES) (put : rows' ≡ set rows 0 (row_of r (band_of w r))) where
  first_of : (bs : List Band) → 0 < length bs → take 1 (set bs 0 (band_of w r)) ≡ band_of w r ∷ []
  first_of [] h = absurd (omega arith)
  first_of (b ∷ bs) h = refl

  bands_so : bands_in rows' ≡ set (bands_in rows) 0 (band_of w r)
  bands_so = ap bands_in put ∙ bands_put w width r lawful rows 0

  own_band : take 1 (bands_in rows') ≡ map (band_of w) (r ∷ [])
  own_band = ap (take 1) bands_so ∙ first_of (bands_in rows) (omega (arith, room, length-map rows band_in))

  all_lawful : AllLawful w (r ∷ [])
  unfolding AllLawful
  all_lawful = (lawful, tt)

  pub alone_lies : Lie (top w) 1 (bands_in rows')
  alone_lies = record {
    places = ap length bands_so ∙ length-set (bands_in rows) 0 (band_of w r) ∙ length-map rows band_in ∙ room;
    count = omega arith;
    laid = subst (AllLaid (top w)) (sym own_band) (bands_laid w width.low (r ∷ []) all_lawful);
  }

  pub alone_of : OfLawful w (take 1 (bands_in rows')) (joined (Bits 0 0) r) (r ∷ [])
  unfolding fixed_bits fixed_from
  alone_of = (all_lawful, record { own = own_band; bits = refl })

pub alone_tidy : (r : Rule) → Tidy (joined (Bits 0 0) r)
unfolding fixed_bits fixed_from
alone_tidy r = fixed_tidy (r ∷ [])

-- a column's cell, by how its words go
abbrev pub cells : (Run → Cell) → Option Run → Cell
cells k (Some v) = k v
cells k None = Nowhere

-- words of a sheet that is not blank, in order
pub record Laid (h : Head) (v : Run) : Type 0 where
  pub stands : h.stands ≡ true
  pub opened : h.opening.width ≡ 0 → ⊥
  pub order : v.from ≤ v.to
  pub below : v.to ≤ top h.opening.width

module _ {h : Head} {rows : List (List ℕ)} {marks : List ℕ} (held : Held h rows marks) (c : ℕ) where
  abbrev w : ℕ
  w = h.opening.width

  abbrev own : List Rule
  own = take h.counts.count (rules_in rows)

  -- what the code tests
  abbrev test : Bool
  test = h.stands && (not (eqb w 0) && ltb c (columns w))

  drawn_so : test ≡ drawable (packed h rows marks) c
  unfolding drawable packed
  drawn_so = sym (ap (λ (b : Bool). b && (not (eqb w 0) && ltb c (columns w))) (packed_told h rows marks ∙ sym held.tested))

  module _ {s : Option Run} (e : s ≡ shown h.stands w c) where
    pub all_shown : cells (λ r. cell_of (fits w own) r.from r.to) s ≡ all_cell (packed h rows marks) c
    unfolding shown all_cell column_cell packed
    all_shown = ap (cells _) e ∙ go test ∙ ap (λ (b : Bool). cond b (column_cell w c (fits w own)) Nowhere) drawn_so
      where
        go : (b : Bool) → cells (λ r. cell_of (fits w own) r.from r.to) (cond b (Some (words_of w c)) None) ≡ cond b (column_cell w c (fits w own)) Nowhere
        go true = refl
        go false = refl

    pub one_shown : (i : ℕ) {u : Bool} → ltb i h.counts.count ≡ u
        → cells (λ r. cond u (cell_of (meets w (nth own i)) r.from r.to) Nowhere) s ≡ rule_cell (packed h rows marks) i c
    unfolding shown rule_cell column_cell packed
    one_shown i {u = u} t =
        ap (cells _) e
        ∙ go test
        ∙ ap₂ (λ (a b : Bool). cond (a && b) (column_cell w c (meets w (nth own i))) Nowhere) drawn_so (sym t)
      where
        go : (b : Bool)
            → cells (λ r. cond u (cell_of (meets w (nth own i)) r.from r.to) Nowhere) (cond b (Some (words_of w c)) None)
            ≡ cond (b && u) (column_cell w c (meets w (nth own i))) Nowhere
        go true = refl
        go false = refl

  -- words that are shown are in order and within the width, of a sheet that is not blank
  pub words_so : {v : Run} → Some v ≡ shown h.stands w c → Laid h v
  unfolding shown
  words_so {v = v} s = go test refl s
    where
      run : Option Run → Run
      run (Some r) = r
      run None = v

      go : (b : Bool) → b ≡ test → Some v ≡ cond b (Some (words_of w c)) None → Laid h v
      go true p e =
          let (a, r) = both_pass h.stands _ (sym p) in
          let (b, d) = both_pass (not (eqb w 0)) _ r in
          let (f, t) = column_ends w c (ltb-true c (columns w) d) (ap run e) in
          record { stands = a; opened = λ z. false≢true (sym (not-true _ b) ∙ eq-eqb w 0 z); order = f; below = t }
      go false p e = let z : ◌≡◌ {A = ℕ} 0 1 = cc in absurd (omega arith)
