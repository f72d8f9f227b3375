-- What is read of rows: the rule and the band in each, and what putting a row does to the lists of both. Where a row is past the last,
-- its rule is none and its band is blank. Assumes nothing.
use Rattle.std.proofs.Common.{◌≡◌, ℕ, zero, suc, ◌+◌, ◌%◌, ◌^◌, ◌<◌, ◌≤◌, Bool, true, false, cond, eqb, List, [], ◌∷◌, map, length, get_or, take, set, sym, refl, ap, ◌∙◌, subst, arith, length-take-le, get_or-take, pow_mono}
use lib.ListN.{get_or-map, length-map}
use Rattle.word.specs.Word.{IsWidth, top}
use Rattle.word.proofs.Widths.{top-suc}
use Rattle.rule.specs.declared.Rule.{Rule}
use Rattle.rule.specs.Meaning.{Lawful}
use Rattle.rule.specs.accept.Accept.{no_rule}
use Rattle.rule.specs.declared.band.Band.{Band}
use Rattle.rule.specs.band.route.Band.{AllLaid, Laid, band_of, holds, turned_band}
use Rattle.rule.proofs.band.Law.{laid}
use Rattle.rule.proofs.band.Turn.{turned_holds, turned_laid}
use Rattle.search.specs.rows.route.Bands.{all_seen, blank_band, faced, seen}
use Rattle.search.specs.rows.route.Rows.{away, band_in, bands_in, onward, row_of, rule_in, rules_in}

pub rule_in_lem : (rows : List (List ℕ)) (i : ℕ) → get_or (rules_in rows) i no_rule ≡ rule_in (get_or rows i [])
unfolding rule_in
rule_in_lem rows i = get_or-map rule_in rows i []

pub band_in_lem : (rows : List (List ℕ)) (i : ℕ) → get_or (bands_in rows) i blank_band ≡ band_in (get_or rows i [])
unfolding band_in onward
band_in_lem rows i = get_or-map band_in rows i []

map-set : {A B : Type 0} (f : A → B) (l : List A) (i : ℕ) (x : A) → map f (set l i x) ≡ set (map f l) i (f x)
map-set f [] i x = refl
map-set f (y ∷ l) zero x = refl
map-set f (y ∷ l) (suc i) x = ap (λ (m : List _). f y ∷ m) (map-set f l i x)

-- a row has the rule and the band that it was made of
pub rule_of : (r : Rule) (b : Band) → rule_in (row_of r b) ≡ r
unfolding rule_in row_of
rule_of r b = refl

-- as far up from a machine word as another is, is the other
there : (a b : ℕ) → a < 2 ^ 64 → b < 2 ^ 64 → onward a (away a b) ≡ b
unfolding onward away
there a b h k = omega arith

-- the only number of the machine that is so far
pub far_so : (a b d : ℕ) → a < 2 ^ 64 → d < 2 ^ 64 → (d + a) % 2 ^ 64 ≡ b → d ≡ away a b
unfolding away
far_so a b d h k e = omega arith

band_of_lem : (r : Rule) (b : Band) → b.from < 2 ^ 64 → b.to < 2 ^ 64 → band_in (row_of r b) ≡ b
unfolding band_in row_of
band_of_lem r b h l = λ k. record { from = b.from; to = there b.from b.to h l k; inside = side b.inside k }
  where
    side : (v : Bool) → eqb (cond v 1 0) 1 ≡ v
    side true = refl
    side false = refl

-- a word of any width is a machine word
pub machine : (w x : ℕ) → w ≤ 64 → x ≤ top w → x < 2 ^ 64
machine w x h l = omega (arith, pow_mono {i = w} {j = 64} h, top-suc w)

-- putting a row is a store in both lists
pub rules_put : (rows : List (List ℕ)) (i : ℕ) (r : Rule) (b : Band) → rules_in (set rows i (row_of r b)) ≡ set (rules_in rows) i r
rules_put rows i r b = map-set rule_in rows i (row_of r b) ∙ ap (set (rules_in rows) i) (rule_of r b)

-- the band of a lawful rule is one of machine words
module _ (w : ℕ) (width : IsWidth w) (r : Rule) (lawful : Lawful w r) where
  pub own_of : band_in (row_of r (band_of w r)) ≡ band_of w r
  own_of =
      let l = laid w width.low r lawful in
      band_of_lem r (band_of w r) (machine w _ width.high l.from_word) (machine w _ width.high l.to_word)

  pub bands_put : (rows : List (List ℕ)) (i : ℕ) → bands_in (set rows i (row_of r (band_of w r))) ≡ set (bands_in rows) i (band_of w r)
  bands_put rows i = map-set band_in rows i (row_of r (band_of w r)) ∙ ap (set (bands_in rows) i) own_of

map_at : {A B : Type 0} (f : A → B) (l : List A) (i : ℕ) (d : A) (e : B) → i < length l → get_or (map f l) i e ≡ f (get_or l i d)
map_at f [] i d e h = absurd (omega arith)
map_at f (x ∷ l) zero d e h = refl
map_at f (x ∷ l) (suc i) d e h = map_at f l i d e (omega arith)

-- a band among the first n that are laid is laid
laid_at : (t : ℕ) (bs : List Band) (i : ℕ) (d : Band) → i < length bs → AllLaid t bs → Laid t (get_or bs i d)
unfolding AllLaid
laid_at t [] i d h l = absurd (omega arith)
laid_at t (b ∷ bs) zero d h l = l.0
laid_at t (b ∷ bs) (suc i) d h l = laid_at t bs i d (omega arith) l.1

pub laid_take : (t : ℕ) (bs : List Band) (n i : ℕ) (d : Band) → i < n → n ≤ length bs → AllLaid t (take n bs) → Laid t (get_or bs i d)
laid_take t bs n i d h l a = subst (Laid t) (get_or-take n bs i d h) (laid_at t (take n bs) i d (omega (arith, length-take-le n bs l)) a)

-- the bands as they are seen, as many and each as it is seen
module _ (turned : Bool) (t : ℕ) where
  pub seen_length : (bs : List Band) → length (all_seen turned t bs) ≡ length bs
  unfolding all_seen
  seen_length bs = elim turned as (λ k. length (all_seen k t bs) ≡ length bs) [ true ↦ length-map bs (turned_band t) | false ↦ refl ]

  pub seen_at : (bs : List Band) (i : ℕ) (d : Band) → i < length bs → get_or (all_seen turned t bs) i d ≡ seen turned t (get_or bs i d)
  unfolding all_seen seen
  seen_at bs i d h = elim turned as (λ k. get_or (all_seen k t bs) i d ≡ seen k t (get_or bs i d)) [ true ↦ map_at (turned_band t) bs i d d h | false ↦ refl ]

  pub seen_laid : (b : Band) → Laid t b → Laid t (seen turned t b)
  unfolding seen
  seen_laid b l = elim turned as (λ k. Laid t (seen k t b)) [ true ↦ turned_laid t b l | false ↦ l ]

  -- seen on the wheel turned round, or as it stands
  pub seen_turned : (b : Band) → turned ≡ true → turned_band t b ≡ seen turned t b
  unfolding seen
  seen_turned b e = ap (λ (v : Bool). cond v (turned_band t b) b) (sym e)

  pub seen_plain : (b : Band) → turned ≡ false → b ≡ seen turned t b
  unfolding seen
  seen_plain b e = ap (λ (v : Bool). cond v (turned_band t b) b) (sym e)

  -- a word is held as it is seen where it is held as it stands
  pub seen-holds : (b : Band) (x : ℕ) → Laid t b → x ≤ t → holds (seen turned t b) x ≡ holds b (faced turned t x)
  unfolding seen faced
  seen-holds b x l h = elim turned as (λ k. holds (seen k t b) x ≡ holds b (faced k t x)) [ true ↦ turned_holds t b x l h | false ↦ refl ]

  pub faced_word : (x : ℕ) → x ≤ t → faced turned t x ≤ t
  unfolding faced
  faced_word x h = elim turned as (λ k. faced k t x ≤ t) [ true ↦ omega arith | false ↦ h ]
