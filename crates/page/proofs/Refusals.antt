-- The number that a call is given, computed from the table's tests down to the first that passes, and what the tests have
-- said where no number is given; and the page after a call, which is the clerk's or, where it is refused, the one before.
-- Assumes nothing.
use mathlib.Core.Path.{◌≡◌, refl, sym, ◌∙◌}
use mathlib.Core.Bool.{Bool, true, false, ◌&&◌, and-false, cond}
use mathlib.Core.List.{[], ◌∷◌}
use Prim.Native.Nat.{ℕ, ◌≤◌, ◌<◌}
use native.Mathlib.Decide.{ℕ_discrete}
use native.Mathlib.Omega.{arith}
use borrow.Author.Tests.{eq-eqb, eqb-false, le-leb, le-ltb, leb-false, leb-true, lt-leb, lt-ltb, ne_eqb, not-false}
use lib.Dec.{eqb, leb}
use lib.ListN.{length}
use Rattle.word.specs.declared.Edition.{Edition}
use Rattle.word.specs.Edition.{same, terms}
use Rattle.word.proofs.Tests.{both_pass}
use Rattle.rule.specs.declared.Rule.{Rule}
use Rattle.rule.specs.Meaning.{RULES}
use Rattle.rule.specs.accept.Accept.{refusal_of}
use Rattle.rule.proofs.accept.Grounds.{none_given, rule_first}
use Rattle.chain.specs.Links.{chain_room}
use Rattle.page.specs.Calls.{Call, add, after, ask, back, first_that_applies, forward, ground, grounds, is_blank, mark, marks_of, open_at, refusal, rules_of, written}
use Rattle.page.specs.declared.Opening.{Opening}
use Rattle.page.specs.Page.{MARKS, OpenPage, Page, edition_of, entries_of, marks_on, no_page, page, pile_of, rules_on, width_of}

-- ---- opening

module _ (pg : Page) (g : Opening) where
  abbrev widest : ℕ
  widest = (terms g.edition).widest

  pub open_narrow : g.width < 1 → refusal pg (open_at g) ≡ 2
  unfolding refusal grounds first_that_applies
  open_narrow h = rw (lt-leb 1 g.width h)

  pub open_wide : widest < g.width → refusal pg (open_at g) ≡ 2
  unfolding refusal grounds first_that_applies
  open_wide h = rw (lt-leb g.width widest h, and-false)

  pub open_fits : 1 ≤ g.width → g.width ≤ widest → refusal pg (open_at g) ≡ 0
  unfolding refusal grounds first_that_applies
  open_fits l h = rw (le-leb 1 g.width l, le-leb g.width widest h)

  pub opened_width : refusal pg (open_at g) ≡ 0 → (1 ≤ g.width) × (g.width ≤ widest)
  unfolding refusal grounds
  opened_width e =
      let w : ℕ = g.width in
      let t = both_pass (leb 1 w) (leb w widest) (not-false (leb 1 w && leb w widest) (none_given 1 _ _ e).0) in
      (leb-true 1 w t.0, leb-true w widest t.1)

-- ---- the blank sheet

pub blank_add : (e : Edition) (r : Rule) → refusal no_page (add e r) ≡ 1
unfolding refusal grounds first_that_applies is_blank
blank_add e r = refl

pub blank_mark : refusal no_page mark ≡ 1
unfolding refusal grounds first_that_applies is_blank
blank_mark = refl

pub blank_back : refusal no_page back ≡ 1
unfolding refusal grounds first_that_applies is_blank
blank_back = refl

pub blank_forward : refusal no_page forward ≡ 1
unfolding refusal grounds first_that_applies is_blank
blank_forward = refl

pub blank_ask : (m : ℕ) → refusal no_page (ask m) ≡ 1
unfolding refusal grounds first_that_applies is_blank
blank_ask m = refl

-- ---- a page

module _ (o : OpenPage) where
  -- an add of another edition's frame
  pub add_other : (e : Edition) (r : Rule) → same e o.opening.edition ≡ false → refusal (page o) (add e r) ≡ 11
  unfolding refusal grounds first_that_applies is_blank edition_of
  add_other e r h = rw h

  module _ (e : Edition) (r : Rule) where
    -- the number that the rule has by itself, and whether there is no place for it
    abbrev own : ℕ
    own = refusal_of o.opening.width r

    abbrev full : Bool
    full = leb RULES (length (rules_on o.entries))

    abbrev told : Type 0
    told = same e o.opening.edition ≡ true

    add_first : told → refusal (page o) (add e r) ≡ cond (eqb own 0) (first_that_applies (ground 6 full ∷ [])) own
    unfolding refusal grounds first_that_applies is_blank edition_of width_of rules_of entries_of
    add_first t = rw t (rule_first o.opening.width r (ground 6 full ∷ []))

    pub add_bad : told → (own ≡ 0 → ⊥) → refusal (page o) (add e r) ≡ own
    add_bad t z = rw (add_first t, ne_eqb own 0 z)

    pub add_full : told → own ≡ 0 → RULES ≤ length (rules_on o.entries) → refusal (page o) (add e r) ≡ 6
    unfolding first_that_applies
    add_full t z h = rw (add_first t, eq-eqb own 0 z, le-leb RULES (length (rules_on o.entries)) h)

    pub add_fits : told → own ≡ 0 → length (rules_on o.entries) < RULES → refusal (page o) (add e r) ≡ 0
    unfolding first_that_applies
    add_fits t z h = rw (add_first t, eq-eqb own 0 z, lt-leb RULES (length (rules_on o.entries)) h)

    pub added_rule : refusal (page o) (add e r) ≡ 0 → told × (own ≡ 0) × (length (rules_on o.entries) < RULES)
    unfolding refusal grounds is_blank edition_of
    added_rule none = go (ℕ_discrete own 0)
      where
        t : told
        t = not-false _ (none_given 10 _ _ (none_given 0 _ _ none).1).0

        go : Dec (own ≡ 0) → told × (own ≡ 0) × (length (rules_on o.entries) < RULES)
        go (yes z) =
            let q : first_that_applies (ground 6 full ∷ []) ≡ 0 = rw (add_first t, eq-eqb own 0 z) at none in
            (t, z, leb-false RULES (length (rules_on o.entries)) (none_given 5 full [] q).0)
        go (no z) = absurd (z (sym (add_bad t z) ∙ none))

  pub mark_full : MARKS ≤ length (marks_on o.entries) → refusal (page o) mark ≡ 7
  unfolding refusal grounds first_that_applies is_blank marks_of entries_of
  mark_full h = rw (le-leb MARKS (length (marks_on o.entries)) h)

  pub mark_fits : length (marks_on o.entries) < MARKS → refusal (page o) mark ≡ 0
  unfolding refusal grounds first_that_applies is_blank marks_of entries_of
  mark_fits h = rw (lt-leb MARKS (length (marks_on o.entries)) h)

  pub marked_room : refusal (page o) mark ≡ 0 → length (marks_on o.entries) < MARKS
  unfolding refusal grounds is_blank marks_of entries_of
  marked_room e = leb-false MARKS (length (marks_on o.entries)) (none_given 6 _ _ (none_given 0 _ _ e).1).0

  pub back_none : length (marks_on o.entries) ≡ 0 → refusal (page o) back ≡ 8
  unfolding refusal grounds first_that_applies is_blank marks_of entries_of
  back_none h = rw (eq-eqb (length (marks_on o.entries)) 0 h)

  pub back_fits : 0 < length (marks_on o.entries) → refusal (page o) back ≡ 0
  unfolding refusal grounds first_that_applies is_blank marks_of entries_of
  back_fits h = rw (ne_eqb (length (marks_on o.entries)) 0 (λ e. omega arith))

  pub back_marked : refusal (page o) back ≡ 0 → 0 < length (marks_on o.entries)
  unfolding refusal grounds is_blank marks_of entries_of
  back_marked e =
      let z = eqb-false (length (marks_on o.entries)) 0 (none_given 7 _ _ (none_given 0 _ _ e).1).0 in omega arith

  pub forward_none : length o.pile ≡ 0 → refusal (page o) forward ≡ 12
  unfolding refusal grounds first_that_applies is_blank pile_of
  forward_none h = rw (eq-eqb (length o.pile) 0 h)

  pub forward_fits : 0 < length o.pile → refusal (page o) forward ≡ 0
  unfolding refusal grounds first_that_applies is_blank pile_of
  forward_fits h = rw (ne_eqb (length o.pile) 0 (λ e. omega arith))

  pub ask_short : (m : ℕ) → m < chain_room (length (rules_on o.entries)) → refusal (page o) (ask m) ≡ 9
  unfolding refusal grounds first_that_applies is_blank rules_of entries_of
  ask_short m h = rw (lt-ltb m (chain_room (length (rules_on o.entries))) h)

  pub ask_fits : (m : ℕ) → chain_room (length (rules_on o.entries)) ≤ m → refusal (page o) (ask m) ≡ 0
  unfolding refusal grounds first_that_applies is_blank rules_of entries_of
  ask_fits m h = rw (le-ltb m (chain_room (length (rules_on o.entries))) h)

-- ---- the page after a call

pub after_refused : (pg : Page) (c : Call) → (refusal pg c ≡ 0 → ⊥) → after pg c ≡ pg
unfolding after
after_refused pg c n = rw (ne_eqb (refusal pg c) 0 n, after)

pub after_accepted : (pg : Page) (c : Call) → refusal pg c ≡ 0 → after pg c ≡ written pg c
unfolding after
after_accepted pg c e = rw (eq-eqb (refusal pg c) 0 e, after)

-- asking leaves the page
pub after-ask : (pg : Page) (m : ℕ) → after pg (ask m) ≡ pg
unfolding written
after-ask pg m = go (ℕ_discrete (refusal pg (ask m)) 0)
  where
    go : Dec (refusal pg (ask m) ≡ 0) → after pg (ask m) ≡ pg
    go (yes e) = after_accepted pg (ask m) e
    go (no n) = after_refused pg (ask m) n
