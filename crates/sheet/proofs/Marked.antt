-- A mark on a slate is the mark on its record: the rules and the marks are those of the page with one mark more. Assumes
-- nothing.
use mathlib.Core.Path.{◌≡◌, refl, sym, ◌∙◌}
use mathlib.Core.List.{List, ◌∷◌}
use Prim.Native.Nat.{ℕ, ◌+◌, ◌≤◌, ◌<◌}
use native.Mathlib.Omega.{arith}
use lib.ListN.{length, set}
use Rattle.page.specs.Calls.{changed, mark, written}
use Rattle.page.specs.Page.{MARKS, a_mark, marks_on, with_entries}
use Rattle.page.specs.Reached.{step}
use Rattle.page.proofs.Lawful.{reached_page}
use Rattle.page.proofs.Refusals.{blank_mark, mark_fits, mark_full}
use Rattle.search.specs.rows.route.Rows.{rules_in}
use Rattle.sheet.specs.declared.slate.Head.{Head}
use Rattle.sheet.specs.slate.route.Held.{Beside, Held, bare_marks}
use Rattle.sheet.specs.slate.route.Numbers.{before}
use Rattle.sheet.specs.slate.slate_calls.route.Done.{Marks, bare_rules, marked_head}
use Rattle.sheet.specs.slate.slate_calls.route.Done.Marks.{marked, unmarked}
use Rattle.sheet.proofs.slate.slate_calls.Bare.{room_marked}
use Rattle.sheet.specs.route.Held.{packed}
use Rattle.sheet.specs.route.Laid.{After}
use Rattle.sheet.specs.route.Stands.{Standing}
use Rattle.sheet.specs.Statements.{Outcome}
use Rattle.sheet.proofs.Fresh.{after_mark, cleared, with_mark}
use Rattle.sheet.proofs.Holding.{on_sheet, refused_after, still_held}
use Rattle.sheet.proofs.Stands.{known}
use Rattle.sheet.proofs.Ways.{accepted_reads}

module _ {h : Head} {rows : List (List ℕ)} {marks : List ℕ} (held : Held h rows marks) where
  module _ (e : before h.stands h.opening.width ≡ 0) (room : h.counts.marked < MARKS) (rows' : List (List ℕ)) (marks' : List ℕ)
      (emptied : rules_in rows' ≡ bare_rules h rows) (noted : marks' ≡ set (bare_marks h marks) h.counts.marked h.counts.count) (beside : Beside (marked_head h) rows') where
    abbrev p : Standing (packed h rows marks)
    p = on_sheet held e

    free : length (marks_on p.on.entries) < MARKS
    unfolding packed
    free = omega (arith, room, (known p).marked)

    record_marked : with_mark (cleared (packed h rows marks)) ≡ packed (marked_head h) rows' marks'
    unfolding packed
    record_marked =
        λ i. record {
          width = h.opening.width;
          rules = sym emptied i;
          count = h.counts.count;
          marks = sym noted i;
          marked = h.counts.marked + 1;
          kept = h.kept;
          given = h.counts.count;
          waiting = 0;
          edition = h.opening.edition;
        }

    with_mark_lem : Standing (packed (marked_head h) rows' marks')
    unfolding written changed
    with_mark_lem =
        record {
          on = with_entries p.on (a_mark ∷ p.on.entries);
          reached = step p.reached mark (mark_fits _ free);
          gives = sym (after_mark _ p.gives (reached_page p.reached) free ∙ record_marked);
        }

    marked_after : After (packed h rows marks) mark 0 (marked_head h) rows' marks'
    unfolding Outcome written changed
    marked_after =
        record {
          outcome = accepted_reads _ p.reached p.gives mark (mark_fits _ free) (after_mark _ p.gives (reached_page p.reached) free ∙ record_marked);
          held = still_held with_mark_lem refl (room_marked held e emptied noted) beside;
        }

  full : (p : Standing (packed h rows marks)) → MARKS ≤ h.counts.marked → MARKS ≤ length (marks_on p.on.entries)
  unfolding packed
  full p l = omega (arith, l, (known p).marked)

  pub mark_after : {n : ℕ} {h' : Head} {rows' : List (List ℕ)} {marks' : List ℕ} → Marks h rows marks n h' rows' marks' → After (packed h rows marks) mark n h' rows' marks'
  unfolding Outcome
  mark_after (unmarked why) = record { outcome = refused_after held why mark blank_mark (λ z. omega arith) (λ p l. mark_full _ (full p l)); held = held }
  mark_after (marked e room emptied noted beside) = marked_after e room _ _ emptied noted beside
