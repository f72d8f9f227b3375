-- One rule more on a slate: where what waited is taken away, the rule and its band go into the next row, the bits are joined, and the old
-- ends bound what is kept, or are its ends still. Assumes nothing.
use mathlib.Core.Path.{◌≡◌, refl, sym, ap, ap₂, ◌∙◌, subst}
use mathlib.Core.Bool.{true, not, ◌&&◌}
use mathlib.Core.List.{List, [], ◌∷◌, map, ◌++◌}
use Prim.Native.Nat.{ℕ, ◌+◌, ◌<◌}
use native.Mathlib.Numerals.{add-one}
use native.Mathlib.Omega.{arith}
use borrow.Author.Tests.{eq-eqb}
use lib.Dec.{eqb}
use lib.ListN.{get_or, length, length-map, length-set, set, take}
use lib.Seq.{take-set-le, take-suc-set}
use Rattle.word.proofs.Tests.{both_pass}
use Rattle.word.specs.declared.Edition.{Edition}
use Rattle.rule.specs.declared.Rule.{Rule}
use Rattle.rule.specs.Meaning.{AllLawful, Lawful, RULES}
use Rattle.rule.specs.accept.Accept.{acceptable, every, refusal_of}
use Rattle.rule.proofs.accept.Accepted.{all_lawful}
use Rattle.rule.proofs.accept.Choices.{never}
use Rattle.rule.proofs.accept.Every.{every_append}
use Rattle.rule.specs.declared.band.Band.{Band}
use Rattle.rule.specs.band.route.Band.{band_of, holds}
use Rattle.rule.specs.declared.bits.Fixed.{Fixed}
use Rattle.rule.specs.bits.route.Fixed.{fixed_bits, fixed_from, has_bits, joined}
use Rattle.search.specs.rows.route.Rows.{band_in, bands_in, row_of, rules_in}
use Rattle.search.proofs.rows.OneMore.{map_append}
use Rattle.search.proofs.rows.Reading.{bands_put, rules_put}
use Rattle.search.specs.declared.verdict.Kept.{Kept}
use Rattle.search.specs.verdict.Kept.{kept}
use Rattle.search.specs.verdict.route.OnBands.{kept_by}
use Rattle.search.proofs.verdict.Rules.{kept_is}
use Rattle.search.proofs.verdict.Unmoved.{unmoved}
use Rattle.sheet.specs.declared.slate.Head.{Head}
use Rattle.sheet.specs.slate.route.Held.{Beside, Drawn, Held, bare_rows}
use Rattle.sheet.specs.slate.route.Notes.{Notes, note_in, noting}
use Rattle.sheet.specs.slate.route.Numbers.{before, rule_number}
use Rattle.sheet.proofs.slate.Holding.{bounds_so, kept_found, kept_so, low_so, rules_places, shape_so, swept, width_so}
use Rattle.sheet.proofs.slate.Noted.{bands_stay, first_noted, one_noted, one_unknown, put_unknown, rules_stay}
use Rattle.sheet.proofs.slate.Numbers.{number_clear, number_zero}
use Rattle.sheet.proofs.slate.Shaped.{first_good}
use Rattle.sheet.specs.slate.slate_calls.route.Done.{bare_rules, with_one}
use Rattle.sheet.proofs.slate.slate_calls.Bare.{bare_drawn, bare_long, bare_noted, bare_places, bare_rules_lem, rules_first}
use Rattle.sheet.specs.slate.slate_add.route.Narrows.{Narrows, stays_so}

joined_last : (f : Fixed) (rs : List Rule) (u : Rule) → fixed_from f (rs ++ u ∷ []) ≡ joined (fixed_from f rs) u
unfolding fixed_from
joined_last f [] u = refl
joined_last f (r ∷ rs) u = joined_last (joined f r) rs u

bits_last : (rs : List Rule) (u : Rule) → joined (fixed_bits rs) u ≡ fixed_bits (rs ++ u ∷ [])
unfolding fixed_bits
bits_last rs u = sym (joined_last _ rs u)

-- the first i + 1 places where place i is taken
taken_next : {A : Type 0} (l l' : List A) (i : ℕ) (x : A) → i < length l → l' ≡ set l i x → take (i + 1) l' ≡ take i l ++ x ∷ []
taken_next l l' i x h e = ap₂ take (add-one i) e ∙ take-suc-set l i x h

-- one more rule that would be accepted
one_good : (w : ℕ) (rs : List Rule) (u : Rule) → every (acceptable w) rs ≡ true → refusal_of w u ≡ 0 → AllLawful w (rs ++ u ∷ [])
unfolding every acceptable
one_good w rs u e z = all_lawful w (rs ++ u ∷ []) (every_append (acceptable w) rs (u ∷ []) ∙ ap₂ ◌&&◌ e (ap₂ ◌&&◌ (eq-eqb (refusal_of w u) 0 z) refl))

-- what the look at the old ends tells
some_before : (v : ℕ) → not (eqb v 0) ≡ true → v ≡ 0 → ⊥
some_before v e z = never (sym (ap not (eq-eqb v 0 z)) ∙ e)

module _ {h : Head} {rows : List (List ℕ)} {marks : List ℕ} (held : Held h rows marks) (d : Edition) (u : Rule) (q : rule_number h d u ≡ 0) where
  abbrev w : ℕ
  w = h.opening.width

  abbrev n : ℕ
  n = h.counts.count + 1

  abbrev rs : List Rule
  rs = take h.counts.count (rules_in rows)

  pub none_before : before h.stands h.opening.width ≡ 0
  none_before = number_zero h d u q

  pub next_free : h.counts.count < RULES
  next_free = (number_clear h d u q).1

  good : every (acceptable w) rs ≡ true
  good = first_good h (rules_in rows) marks (rules_places held.room) held.room.marks_places (shape_so held none_before) h.counts.count (low_so held none_before)

  more_lawful : AllLawful w (rs ++ u ∷ [])
  more_lawful = one_good w rs u good (number_clear h d u q).0

  own_lawful : Lawful w u
  unfolding AllLawful every
  own_lawful = (one_good w [] u refl (number_clear h d u q).0).0

  module _ (rows₁ rows₂ : List (List ℕ)) (band : Band) (fixed : Fixed) (bare : rows₁ ≡ bare_rows h rows) (own_band : band ≡ band_of h.opening.width u)
      (put : rows₂ ≡ set rows₁ h.counts.count (row_of u band)) (bits : fixed ≡ joined h.fixed u) where
    abbrev bare_then : List (List ℕ)
    bare_then = bare_rows h rows

    put_bare : rows₂ ≡ set bare_then h.counts.count (row_of u (band_of w u))
    put_bare = put ∙ ap₂ (λ (l : List (List ℕ)) (b : Band). set l h.counts.count (row_of u b)) bare own_band

    rules_then : rules_in rows₂ ≡ set (bare_rules h rows) h.counts.count u
    rules_then =
        ap rules_in put_bare
        ∙ rules_put bare_then h.counts.count u (band_of w u)
        ∙ ap (λ (l : List Rule). set l h.counts.count u) (bare_rules_lem held none_before)

    bands_then : bands_in rows₂ ≡ set (bands_in bare_then) h.counts.count (band_of w u)
    bands_then = ap bands_in put_bare ∙ bands_put w (width_so held none_before) u own_lawful bare_then h.counts.count

    rules_more : take n (rules_in rows₂) ≡ rs ++ u ∷ []
    rules_more =
        taken_next (bare_rules h rows) (rules_in rows₂) h.counts.count u (omega (arith, next_free, bare_places held none_before)) rules_then
        ∙ ap (λ (l : List Rule). l ++ u ∷ []) (rules_first held none_before)

    places : length rows₂ ≡ RULES
    places = ap length put_bare ∙ length-set bare_then h.counts.count (row_of u (band_of w u)) ∙ bare_long held none_before

    drawn_more : Drawn w n n (rules_in rows₂) (bands_in rows₂) fixed
    drawn_more =
        let a = bare_drawn held none_before in
        let first = ap (take h.counts.count) (bare_rules_lem held none_before) ∙ rules_first held none_before in
        record {
          own = taken_next (bands_in bare_then) (bands_in rows₂) h.counts.count (band_of w u) (omega (arith, next_free, length-map bare_then band_in, bare_long held none_before)) bands_then
              ∙ ap (λ (bs : List Band). bs ++ band_of w u ∷ []) (a.own ∙ ap (map (band_of w)) first)
              ∙ sym (ap (map (band_of w)) rules_more ∙ map_append (band_of w) rs (u ∷ []));
          bits = bits ∙ ap (λ (f : Fixed). joined f u) (a.bits ∙ ap fixed_bits first) ∙ bits_last rs u ∙ ap fixed_bits (sym rules_more);
        }

    lawful_more : AllLawful w (take n (rules_in rows₂))
    lawful_more = subst (AllLawful w) (sym rules_more) more_lawful

    -- where the rule holds at the old ends and they have its bits, they are the ends still
    ends_stay : stays_so h.kept band fixed ≡ true → h.kept ≡ kept_by w (take n (bands_in rows₂)) fixed
    unfolding stays_so
    ends_stay e =
        let same = kept_so held none_before in
        let some = both_pass (not (eqb h.kept.verdict 0)) _ e in
        let low = both_pass (holds band h.kept.smallest) _ some.1 in
        let high = both_pass (holds band h.kept.largest) _ low.1 in
        let both = both_pass (has_bits fixed h.kept.smallest) _ high.1 in
        let its_band : (x y : ℕ) → x ≡ y → holds band x ≡ true → holds (band_of w u) y ≡ true = λ x y p t. sym (ap₂ holds own_band p) ∙ t in
        let its_bits : (x y : ℕ) → x ≡ y → has_bits fixed x ≡ true → has_bits (fixed_bits (rs ++ u ∷ [])) y ≡ true = λ x y p t. sym (ap₂ has_bits (drawn_more.bits ∙ ap fixed_bits rules_more) p) ∙ t in
        let smallest = ap (λ (k : Kept). k.smallest) same in
        let largest = ap (λ (k : Kept). k.largest) same in
        same
        ∙ unmoved w (width_so held none_before).low rs u (all_lawful w rs good) more_lawful (λ z. some_before h.kept.verdict some.0 (ap (λ (k : Kept). k.verdict) same ∙ z))
        (its_band _ _ smallest low.0) (its_band _ _ largest high.0) (its_bits _ _ smallest both.0) (its_bits _ _ largest both.1)
        ∙ sym (ap₂ (kept_by w) drawn_more.own drawn_more.bits ∙ kept_is w (width_so held none_before).low (take n (rules_in rows₂)) lawful_more ∙ ap (kept w) rules_more)

    pub narrows : Narrows w n (bands_in rows₂) band fixed h.kept
    narrows =
        let t = swept w n (bands_in rows₂) fixed (rules_in rows₂) (width_so held none_before).low (omega (arith, next_free)) (length-map rows₂ band_in ∙ places) lawful_more drawn_more in
        record {
          width = width_so held none_before;
          lie = t.lie;
          tidy = t.tidy;
          within = t.within;
          bounds = bounds_so held none_before n (rules_in rows₂) (u ∷ []) (bands_in rows₂) fixed rules_more lawful_more drawn_more;
          unmoved = ends_stay;
        }

    module _ (k : Kept) (found : k ≡ kept_by h.opening.width (take (h.counts.count + 1) (bands_in rows₂)) fixed) (rows₃ : List (List ℕ))
        (notes : rows₃ ≡ noting k fixed rows₂ (h.counts.count + 1)) where
      same_rules : rules_in rows₃ ≡ rules_in rows₂
      same_rules = ap rules_in notes ∙ rules_stay k fixed rows₂ n

      kept_then : k ≡ kept w (take n (rules_in rows₂))
      kept_then = kept_found w n (rules_in rows₂) (bands_in rows₂) fixed (width_so held none_before).low lawful_more drawn_more found

      pub rules_added : rules_in rows₃ ≡ set (bare_rules h rows) h.counts.count u
      rules_added = same_rules ∙ rules_then

      pub kept_added : k ≡ kept w (take n (rules_in rows₃))
      kept_added = kept_then ∙ ap (λ (l : List Rule). kept w (take n l)) (sym same_rules)

      -- the notes of the rules before stay, and the new row has its own
      noted_then : Notes w n rows₂
      noted_then =
          let low = (width_so held none_before).low in
          let there : h.counts.count < length bare_then = omega (arith, next_free, bare_long held none_before) in
          let first = first_noted w low h.counts.count bare_then (bare_noted held none_before) h.counts.count rows₂ (omega arith) (ap (take h.counts.count) put_bare ∙ take-set-le h.counts.count bare_then h.counts.count (row_of u (band_of w u)) (omega arith)) in
          subst (λ (m : ℕ). Notes w m rows₂) (sym (add-one h.counts.count))
          (one_unknown w low h.counts.count rows₂ first (ap (λ (l : List (List ℕ)). (note_in (get_or l h.counts.count [])).known) put_bare ∙ put_unknown bare_then h.counts.count u (band_of w u) there))

      pub beside_added : Beside (with_one h k fixed) rows₃
      beside_added =
          let bands_too = ap bands_in notes ∙ bands_stay k fixed rows₂ n in
          record {
            drawn = record {
              own = ap (take n) bands_too ∙ drawn_more.own ∙ ap (λ (l : List Rule). map (band_of w) (take n l)) (sym same_rules);
              bits = drawn_more.bits ∙ ap (λ (l : List Rule). fixed_bits (take n l)) (sym same_rules);
            };
            noted = subst (Notes w n) (sym notes)
                (one_noted w (width_so held none_before).low n rows₂ noted_then n (omega (arith, next_free, places)) k fixed kept_then drawn_more.bits);
          }
