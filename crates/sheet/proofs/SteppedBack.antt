-- A step back on a slate is the step back on its record. Assumes nothing.
use mathlib.Core.Path.{◌≡◌, sym, ◌∙◌}
use mathlib.Core.List.{List}
use Prim.Native.Nat.{ℕ, ◌+◌, ◌-◌, ◌<◌}
use native.Mathlib.Omega.{arith}
use lib.ListN.{length, take}
use Rattle.rule.specs.declared.bits.Fixed.{Fixed}
use Rattle.search.specs.declared.verdict.Kept.{Kept}
use Rattle.search.specs.verdict.Kept.{kept}
use Rattle.page.specs.Calls.{back, changed, written}
use Rattle.page.specs.Page.{marks_on}
use Rattle.page.proofs.Lawful.{reached_page}
use Rattle.page.proofs.Refusals.{back_fits, back_none, blank_back}
use Rattle.search.specs.rows.route.Rows.{rules_in}
use Rattle.sheet.specs.declared.slate.Head.{Head}
use Rattle.sheet.specs.slate.route.Held.{Beside, Held}
use Rattle.sheet.specs.slate.route.Numbers.{before}
use Rattle.sheet.specs.slate.stepping.route.Steps.{Backs, back_head, leaves}
use Rattle.sheet.specs.slate.stepping.route.Steps.Backs.{goes_back, stays}
use Rattle.sheet.specs.route.Held.{packed}
use Rattle.sheet.specs.route.Laid.{After}
use Rattle.sheet.specs.route.Stands.{Standing}
use Rattle.sheet.specs.Statements.{Outcome}
use Rattle.sheet.proofs.Fresh.{after_back, moved}
use Rattle.sheet.proofs.Holding.{on_sheet, refused_after}
use Rattle.sheet.proofs.Moved.{moved_held, moved_record}
use Rattle.sheet.proofs.Stands.{known, stepped_back_lem}
use Rattle.sheet.proofs.Ways.{accepted_reads}

module _ {h : Head} {rows : List (List ℕ)} {marks : List ℕ} (held : Held h rows marks) where
  module _ (e : before h.stands h.opening.width ≡ 0) (z : h.counts.marked ≡ 0 → ⊥) where
    abbrev left : ℕ
    left = leaves h marks

    abbrev p : Standing (packed h rows marks)
    p = on_sheet held e

    some : 0 < length (marks_on p.on.entries)
    unfolding packed
    some = omega (arith, z, (known p).marked)

    stands_back : Standing (moved (packed h rows marks) left (h.counts.marked - 1) (h.counts.waiting + 1))
    unfolding packed
    stands_back = stepped_back_lem p some

    gone_back : {k : Kept} {f : Fixed} → Beside (back_head h marks k f) rows → k ≡ kept h.opening.width (take left (rules_in rows))
        → After (packed h rows marks) back 0 (back_head h marks k f) rows marks
    unfolding Outcome written changed packed
    gone_back beside found =
        record {
          outcome = accepted_reads _ p.reached p.gives back (back_fits _ some)
              (after_back _ p.gives (reached_page p.reached) some ∙ moved_record held left _ _ stands_back beside found);
          held = moved_held held left _ _ stands_back beside found;
        }

  no_mark : (p : Standing (packed h rows marks)) → h.counts.marked ≡ 0 → length (marks_on p.on.entries) ≡ 0
  unfolding packed
  no_mark p z = sym (known p).marked ∙ z

  pub back_after : {n : ℕ} {h' : Head} → Backs h rows marks n h' → After (packed h rows marks) back n h' rows marks
  unfolding Outcome
  back_after (stays why) = record { outcome = refused_after held why back blank_back (λ z. omega arith) (λ p z. back_none _ (no_mark p z)); held = held }
  back_after (goes_back k f e z beside found) = gone_back e z beside found
