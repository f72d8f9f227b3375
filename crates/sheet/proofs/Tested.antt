-- The test passes exactly for sheets: what a reached page gives is well shaped, with what is kept of its rules, and a record
-- that passes is blank or is what a page with its rules and its marks gives. So the number of its places and the test
-- decide whether a record is a sheet. Assumes nothing.
use mathlib.Core.Path.{◌≡◌, refl, sym, ap, ap₂, ◌∙◌}
use mathlib.Core.Bool.{Bool, true, false, false≢true, ◌&&◌}
use mathlib.Core.List.{List}
use Prim.Native.Nat.{ℕ, ◌+◌}
use native.Mathlib.Decide.{ℕ_discrete}
use native.Mathlib.Omega.{arith}
use borrow.Author.Tests.{eq-eqb, eqb-true, le-leb, leb-true, ne_eqb}
use lib.Dec.{eqb, leb}
use lib.ListN.{length, take}
use Rattle.word.specs.declared.Edition.TheVariants.{Old}
use Rattle.word.specs.Edition.{same, terms}
use Rattle.word.proofs.Editions.{same_told}
use Rattle.word.proofs.Tests.{both_pass}
use Rattle.rule.specs.Meaning.{RULES}
use Rattle.rule.specs.accept.Accept.{every, is_no_rule}
use Rattle.search.specs.verdict.Kept.{keeps, kept}
use Rattle.sheet.specs.declared.Sheet.{Sheet}
use Rattle.page.specs.Page.{Entry, MARKS, OpenPage, Page, at_width, marks_on, new_page, no_page, padded, page, restored, rules_on, with_pile}
use Rattle.sheet.specs.Record.{fresh}
use Rattle.sheet.specs.slate.route.Shape.{in_force, same_kept, stands_so, well_shaped}
use Rattle.sheet.proofs.slate.Shaped.{none_waits, passes_same, same_passes}
use Rattle.sheet.specs.route.Shape.{is_sheet}
use Rattle.page.specs.route.Shape.{marks_shaped, rising, rules_shaped}
use Rattle.sheet.specs.Statements.{IsSheet}
use Rattle.page.specs.Reached.{Reached, start}
use Rattle.sheet.proofs.Fresh.{given, in_force_lem}
use Rattle.page.proofs.Lawful.{LawfulPage, LawfulPile, reached_page}
use Rattle.page.proofs.Replayed.{lawful_reached}
use Rattle.page.proofs.ShapedMarks.{Entered, shaped_entered, shaped_marks_rise}
use Rattle.page.proofs.Stretches.{Parted, parted, restored_marked}
use Rattle.sheet.proofs.ShapedRecord.{ShapedSheet, filled, marks_in, rules_in, shaped_filled, shaped_sheet, shaped_so}

-- ---- what a page gives passes

fresh_passes : (pg : Page) → LawfulPage pg → is_sheet (fresh pg) ≡ true
unfolding is_sheet stands_so fresh well_shaped in_force rules_shaped marks_shaped every is_no_rule rising same_kept same
fresh_passes no_page l = refl
fresh_passes (page o) l =
    let w : ℕ = o.opening.width in
    let all : List Entry = restored o.pile o.entries in
    let k = l.restores in
    ap₂ ◌&&◌
    (shaped_filled w (rules_on all) (marks_on all) _ _ _ (kept w (rules_on o.entries)) o.opening.edition k.rules_fit k.marks_fit (restored_marked o.pile o.entries l.stretches) k.allowed
    (shaped_marks_rise all) (in_force_lem o.pile o.entries l.stretches _))
    (rw (ne_eqb w 0 (omega arith), (given o refl l).rules) (ap₂ ◌&&◌ (le-leb w _ k.high) (same_passes (kept w (rules_on o.entries)))))

pub sheet_passes : (s : Sheet) → IsSheet s → is_sheet s ≡ true
sheet_passes s h = rw h.gives (fresh_passes h.on (reached_page h.reached))

-- ---- what passes, a page gives

passes_blank : (s : Sheet) → ShapedSheet s → s.width ≡ 0 → is_sheet s ≡ true → IsSheet s
unfolding is_sheet stands_so fresh
passes_blank s h z e =
    let edition = both_pass (same s.edition Old) _ (rw (eq-eqb s.width 0 z) at (both_pass (shaped_so s) _ e).1) in
    let given = both_pass (eqb s.given 0) _ edition.1 in
    let marked = both_pass (eqb s.marked 0) _ given.1 in
    let waiting = both_pass (eqb s.waiting 0) _ marked.1 in
    let g : s.given ≡ 0 = eqb-true s.given 0 given.0 in
    let m : s.marked ≡ 0 = eqb-true s.marked 0 marked.0 in
    let v : s.waiting ≡ 0 = eqb-true s.waiting 0 waiting.0 in
    let c : s.count ≡ 0 = h.counted ∙ none_waits _ _ _ v ∙ g in
    let k : s.kept ≡ keeps 0 0 0 = passes_same s.kept (keeps 0 0 0) waiting.1 in
    record {
      on = no_page;
      reached = start;
      gives = h.places ∙ (λ i. filled (z i) (take (g i) s.rules) (take (m i + v i) s.marks) (c i) (m i) (v i) (k i) (same_told s.edition Old edition.0 i));
    }

-- a record's rules and marks are those of a page: what is noted is entered, and what waits is laid aside again
module _ (s : Sheet) (h : ShapedSheet s) where
  abbrev noted : Entered (rules_in s) (marks_in s)
  noted = shaped_entered (rules_in s) (marks_in s) h.rise

  abbrev parts : Parted s.waiting noted.on
  parts = parted s.waiting noted.on (omega (arith, ap length noted.marks, h.many))

  abbrev all : List Entry
  all = restored parts.pile parts.left

  noted_rules : rules_in s ≡ rules_on all
  noted_rules = sym (ap rules_on parts.whole ∙ noted.rules)

  noted_marks : marks_in s ≡ marks_on all
  noted_marks = sym (ap marks_on parts.whole ∙ noted.marks)

  noted_marked : s.marked ≡ length (marks_on parts.left)
  noted_marked = omega (arith, restored_marked parts.pile parts.left parts.stretches, parts.many, ap length noted_marks, h.many)

  noted_count : s.count ≡ length (rules_on parts.left)
  noted_count =
      let given = ap Sheet.given h.places ∙ ap length noted_rules in
      let marks = ap Sheet.marks h.places ∙ ap (padded MARKS 0) noted_marks in
      h.counted
      ∙ (λ i. in_force (given i) (marks i) (noted_marked i) (sym parts.many i))
      ∙ in_force_lem parts.pile parts.left parts.stretches _

  noted_places : s ≡ filled s.width (rules_on all) (marks_on all) (length (rules_on parts.left)) (length (marks_on parts.left)) (length parts.pile) s.kept s.edition
  noted_places =
      h.places ∙ (λ i. filled s.width (noted_rules i) (noted_marks i) (noted_count i) (noted_marked i) (sym parts.many i) s.kept s.edition)

passes_opened : (s : Sheet) → ShapedSheet s → (s.width ≡ 0 → ⊥) → is_sheet s ≡ true → IsSheet s
unfolding is_sheet stands_so fresh
passes_opened s h z e =
    let w : ℕ = s.width in
    let t = both_pass (leb w (terms s.edition).widest) _ (rw (ne_eqb w 0 z) at (both_pass (shaped_so s) _ e).1) in
    let p = parts s h in
    let o : OpenPage = with_pile (new_page (at_width w s.edition)) p.left p.pile in
    let l : LawfulPile o =
    record {
      restores = record {
        low = omega arith;
        high = leb-true w _ t.0;
        rules_fit = rw (← noted_rules s h) h.few_rules;
        marks_fit = rw (← noted_marks s h) h.few_marks;
        allowed = rw (← noted_rules s h) h.good_rules;
      };
      stretches = p.stretches;
    } in
    let k : s.kept ≡ kept w (rules_on p.left) =
    passes_same s.kept (kept w (take s.count s.rules)) t.1
    ∙ ap (λ (u : Sheet). kept w (take u.count u.rules)) (noted_places s h)
    ∙ ap (kept w) (given o refl l).rules in
    record {
      on = page o;
      reached = lawful_reached (page o) l;
      gives = noted_places s h ∙ (λ i. filled w (rules_on (all s h)) (marks_on (all s h)) (length (rules_on p.left)) (length (marks_on p.left)) (length p.pile) (k i) s.edition);
    }

pub passes_sheet : (s : Sheet) → length s.rules ≡ RULES → length s.marks ≡ MARKS → is_sheet s ≡ true → IsSheet s
unfolding is_sheet stands_so
passes_sheet s a b e = go (ℕ_discrete s.width 0)
  where
    shaped : ShapedSheet s
    shaped = shaped_sheet s a b (both_pass (shaped_so s) _ e).0

    go : Dec (s.width ≡ 0) → IsSheet s
    go (yes z) = passes_blank s shaped z e
    go (no z) = passes_opened s shaped z e

-- ---- so it can be told

pub places : (pg : Page) → LawfulPage pg → (length (fresh pg).rules ≡ RULES) × (length (fresh pg).marks ≡ MARKS)
unfolding fresh
places no_page l = (refl, refl)
places (page o) l = let g = given o refl l in (g.rules_length, g.marks_length)

pub sheet_dec : (s : Sheet) → Dec (IsSheet s)
sheet_dec s = go (ℕ_discrete (length s.rules) RULES) (ℕ_discrete (length s.marks) MARKS) (is_sheet s) refl
  where
    sized : IsSheet s → (length s.rules ≡ RULES) × (length s.marks ≡ MARKS)
    sized h = rw h.gives (places h.on (reached_page h.reached))

    go : Dec (length s.rules ≡ RULES) → Dec (length s.marks ≡ MARKS) → (t : Bool) → is_sheet s ≡ t → Dec (IsSheet s)
    go (no a) b t e = no (λ h. a (sized h).0)
    go (yes a) (no b) t e = no (λ h. b (sized h).1)
    go (yes a) (yes b) true e = yes (passes_sheet s a b e)
    go (yes a) (yes b) false e = no (λ h. false≢true (sym e ∙ sheet_passes s h))

-- what follows where a page gives the record, and where the record is no sheet, follows
pub sheet_or_not : (s : Sheet) {A : Type 0} → ((pg : Page) → Reached pg → s ≡ fresh pg → A) → ((IsSheet s → ⊥) → A) → A
sheet_or_not s {A} on none = go (sheet_dec s)
  where
    go : Dec (IsSheet s) → A
    go (yes h) = on h.on h.reached h.gives
    go (no n) = none n

-- two outcomes with a buffer each are the same where both are a third
pub same_outcome : {A B : Type 0} {x y z : A} {u v w : B} → (x ≡ z) × (u ≡ w) → (y ≡ z) × (v ≡ w) → (x ≡ y) × (u ≡ v)
same_outcome p q = (p.0 ∙ sym q.0, p.1 ∙ sym q.1)
