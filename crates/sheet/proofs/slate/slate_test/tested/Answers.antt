-- `tested` meets its contract: the shape first, then what is kept, found anew on the bands that are drawn. Assumes nothing.
use mathlib.Core.Path.{◌≡◌, refl, sym, ap, ◌∙◌, subst}
use mathlib.Core.Bool.{Bool, true, ◌&&◌}
use Rattle.std.specs.Prelude.{nat_eq}
use mathlib.Core.List.{List}
use Prim.Native.Nat.{ℕ, ◌≤◌}
use native.Mathlib.Omega.{arith}
use borrow.Author.Tests.{leb-true}
use lib.ListN.{take}
use Rattle.word.specs.Word.{IsWidth}
use Rattle.word.proofs.Tests.{both_pass}
use Rattle.rule.specs.declared.Rule.{Rule}
use Rattle.rule.specs.Meaning.{AllLawful, RULES}
use Rattle.rule.proofs.accept.Choices.{failed, never, passed}
use Rattle.search.specs.declared.verdict.Kept.{Kept}
use Rattle.search.specs.rows.route.Rows.{rules_in}
use Rattle.search.specs.verdict.route.OnBands.{Ends}
use Rattle.search.proofs.verdict.Rules.{whole_wheel}
use Rattle.sheet.specs.declared.slate.Head.{Head}
use Rattle.sheet.specs.slate.route.Held.{Held, found_to}
use Rattle.sheet.specs.slate.route.Shape.{same_kept, stands_so, well_shaped}
use Rattle.sheet.proofs.slate.Holding.{rules_places, width_in}
use Rattle.sheet.proofs.slate.Shaped.{Shaped, count_low, first_lawful, shaped_so_lem}
use Rattle.sheet.proofs.slate.Told.{shape, told_kept, told_out, unread}
use Rattle.sheet.proofs.slate.slate_test.Drawn.{beside, kept_so, may_sweep, room_still, rows_long, rules_same}
use Rattle.std.proofs.lemmas.Bool.{not_from_false, not_from_true}
use Rattle.sheet.proofs.slate.slate_test.tested.Goals.{Else-not-shaped, Start}
use Rattle.sheet.proofs.slate.slate_test.tested.Goals as goal

-- what is promised of the head r and the rows then
abbrev All : Start → List (List ℕ) → Head → Type 0
All s rows r =
    (r ≡ found_to s.args.head r.stands r.fixed) × ((rules_in rows ≡ rules_in s.args.rows.now) × Held r rows s.args.marks.now)

good : (a : Else-not-shaped) → shape a.args.head (rules_in a.args.rows.now) a.args.marks.now ≡ true
good a = passed a.shaped.ensures (not_from_true _ a.if-not-shaped.false)

parts : (a : Else-not-shaped) → Shaped a.args.head (rules_in a.args.rows.now) a.args.marks.now
parts a = shaped_so_lem _ _ _ (rules_places a.requires) a.requires.marks_places (both_pass (well_shaped a.args.head _ _) _ (good a)).0

width : (a : Else-not-shaped) → IsWidth a.args.head.opening.width
width a = width_in a.args.head a.if-bits-eq0.false (leb-true _ _ (both_pass (well_shaped a.args.head _ _) _ (good a)).1)

low : (a : Else-not-shaped) → a.args.head.counts.count ≤ a.args.head.counts.given
low a = count_low _ _ _ (rules_places a.requires) a.requires.marks_places (parts a)

few : (a : Else-not-shaped) → a.args.head.counts.given ≤ RULES
few a = (parts a).given_high

lawful : (a : Else-not-shaped) (n : ℕ) → n ≤ a.args.head.counts.given → AllLawful a.args.head.opening.width (take n (rules_in a.args.rows.now))
lawful a n h = first_lawful _ _ _ (rules_places a.requires) a.requires.marks_places (parts a) n h

pub returns-then-bits-eq0 : goal.returns-then-bits-eq0
returns-then-bits-eq0 c = let whole = subst (All (goal.at.returns-then-bits-eq0 c).Start c.args.rows.now) (sym c.found.ensures) (
  refl,
  (
    refl,
    record { room = c.requires; tested = c.blank.ensures ∙ sym (unread c.args.head _ _ _ _); beside = λ e z. absurd (z c.if-bits-eq0.true) },
  ),
) in record { value = whole.0; rows_unchanged = whole.1.0; held = whole.1.1 }

pub returns-then-not-shaped : goal.returns-then-not-shaped
returns-then-not-shaped c = let whole = subst (All (goal.at.returns-then-not-shaped c).Start c.args.rows.now) (sym c.found-then-not-shaped.ensures) (
  refl,
  (
    refl,
    record {
      room = c.requires;
      tested = told_out c.args.head _ _ c.if-bits-eq0.false (failed c.shaped.ensures (not_from_false _ c.if-not-shaped.true)) ∙ sym (unread c.args.head _ _ _ _);
      beside = λ q z. never q;
    },
  ),
) in record { value = whole.0; rows_unchanged = whole.1.0; held = whole.1.1 }

pub draw-requires : goal.draw-requires
draw-requires c = record { width = width (goal.at.draw-requires c).Else-not-shaped; n_bound = (omega (arith, low (goal.at.draw-requires c).Else-not-shaped, few (goal.at.draw-requires c).Else-not-shaped), c.requires.rows_places) }

pub bits_of-fixed-requires : goal.bits_of-fixed-requires
bits_of-fixed-requires c =
    (omega (arith, low (goal.at.bits_of-fixed-requires c).Else-not-shaped, few (goal.at.bits_of-fixed-requires c).Else-not-shaped), rows_long c.args.head c.requires (width (goal.at.bits_of-fixed-requires c).Else-not-shaped) (low (goal.at.bits_of-fixed-requires c).Else-not-shaped) (few (goal.at.bits_of-fixed-requires c).Else-not-shaped) (lawful (goal.at.bits_of-fixed-requires c).Else-not-shaped) _ c.draw.ensures)

pub top-requires : goal.top-requires
top-requires c = width (goal.at.top-requires c).Else-not-shaped

pub solve-found-requires : goal.solve-found-requires
solve-found-requires c =
    let t = may_sweep c.args.head c.requires (width (goal.at.solve-found-requires c).Else-not-shaped) (low (goal.at.solve-found-requires c).Else-not-shaped) (few (goal.at.solve-found-requires c).Else-not-shaped) (lawful (goal.at.solve-found-requires c).Else-not-shaped) _ c.draw.ensures _ c.bits_of-fixed.ensures in record { width = width (goal.at.solve-found-requires c).Else-not-shaped; lie = t.lie; tidy = (t.tidy, t.within); ends = subst (Ends c.args.head.opening.width _ _ 0) (sym c.top.ensures) (whole_wheel c.args.head.opening.width _ _) }

pub put_note-requires : goal.put_note-requires
put_note-requires c = omega (arith, low (goal.at.put_note-requires c).Else-not-shaped, few (goal.at.put_note-requires c).Else-not-shaped)

-- the derived equality of what is kept looks at the three numbers
same_told : (a b : Kept) {r : Bool} → r ≡ (nat_eq a.verdict b.verdict && (nat_eq a.smallest b.smallest && nat_eq a.largest b.largest)) → r ≡ same_kept a b
unfolding same_kept
same_told a b h = h

pub returns : goal.returns
returns c =
    let rules_too = rules_same c.args.head c.requires (width (goal.at.returns c).Else-not-shaped) (low (goal.at.returns c).Else-not-shaped) (few (goal.at.returns c).Else-not-shaped) (lawful (goal.at.returns c).Else-not-shaped) _ c.draw.ensures c.bits_of-fixed.result c.bits_of-fixed.ensures c.solve-found.result c.solve-found.ensures c.put_note.new.rows c.put_note.ensures in let whole = subst (All (goal.at.returns c).Start c.put_note.new.rows) (sym c.found-2.ensures) (
      refl,
      (
        rules_too,
        record {
          room = room_still c.args.head c.requires (width (goal.at.returns c).Else-not-shaped) (low (goal.at.returns c).Else-not-shaped) (few (goal.at.returns c).Else-not-shaped) (lawful (goal.at.returns c).Else-not-shaped) _ c.draw.ensures c.bits_of-fixed.result c.bits_of-fixed.ensures c.solve-found.result c.solve-found.ensures c.put_note.new.rows c.put_note.ensures;
          tested = same_told c.args.head.kept c.solve-found.result c.eq.ensures
              ∙ ap (same_kept c.args.head.kept) (kept_so c.args.head c.requires (width (goal.at.returns c).Else-not-shaped) (low (goal.at.returns c).Else-not-shaped) (few (goal.at.returns c).Else-not-shaped) (lawful (goal.at.returns c).Else-not-shaped) _ c.draw.ensures c.bits_of-fixed.result c.bits_of-fixed.ensures c.solve-found.result c.solve-found.ensures)
              ∙ told_kept c.args.head _ _ c.if-bits-eq0.false (good (goal.at.returns c).Else-not-shaped)
              ∙ ap (λ (rs : List Rule). stands_so c.args.head rs c.args.marks.now) (sym rules_too)
              ∙ sym (unread c.args.head _ _ _ _);
          beside = λ e z. beside c.args.head c.requires (width (goal.at.returns c).Else-not-shaped) (low (goal.at.returns c).Else-not-shaped) (few (goal.at.returns c).Else-not-shaped) (lawful (goal.at.returns c).Else-not-shaped) _ c.draw.ensures c.bits_of-fixed.result c.bits_of-fixed.ensures c.solve-found.result c.solve-found.ensures c.put_note.new.rows c.put_note.ensures _;
        },
      ),
    ) in record { value = whole.0; rows_unchanged = whole.1.0; held = whole.1.1 }
