-- A step forward on a slate is the step forward on its record. Assumes nothing.
use mathlib.Core.Path.{◌≡◌, sym, ◌∙◌, subst}
use mathlib.Core.List.{List}
use Prim.Native.Nat.{ℕ, ◌+◌, ◌-◌, ◌<◌}
use native.Mathlib.Omega.{arith}
use lib.ListN.{length, take}
use Rattle.rule.specs.declared.bits.Fixed.{Fixed}
use Rattle.search.specs.declared.verdict.Kept.{Kept}
use Rattle.search.specs.verdict.Kept.{kept}
use Rattle.page.specs.Calls.{changed, forward, written}
use Rattle.page.proofs.Lawful.{reached_page}
use Rattle.page.proofs.Refusals.{blank_forward, forward_fits, forward_none}
use Rattle.search.specs.rows.route.Rows.{rules_in}
use Rattle.sheet.specs.declared.slate.Head.{Head}
use Rattle.sheet.specs.slate.route.Held.{Beside, Held}
use Rattle.sheet.specs.slate.route.Numbers.{before}
use Rattle.sheet.specs.slate.stepping.route.Steps.{Forwards, brings, forward_head}
use Rattle.sheet.specs.slate.stepping.route.Steps.Forwards.{goes_on, remains}
use Rattle.sheet.specs.route.Held.{packed}
use Rattle.sheet.specs.route.Laid.{After}
use Rattle.sheet.specs.route.Stands.{Standing}
use Rattle.sheet.specs.Statements.{Outcome}
use Rattle.sheet.proofs.Fresh.{after_forward, moved}
use Rattle.sheet.proofs.Holding.{on_sheet, refused_after}
use Rattle.sheet.proofs.Moved.{moved_held, moved_record}
use Rattle.sheet.proofs.Stands.{known, stepped_forward_lem}
use Rattle.sheet.proofs.Ways.{accepted_reads}

module _ {h : Head} {rows : List (List ℕ)} {marks : List ℕ} (held : Held h rows marks) where
  module _ (e : before h.stands h.opening.width ≡ 0) (z : h.counts.waiting ≡ 0 → ⊥) (n : ℕ) (counted : n ≡ brings h marks) where
    abbrev next : ℕ
    next = h.counts.marked + 1

    abbrev left : ℕ
    left = h.counts.waiting - 1

    abbrev p : Standing (packed h rows marks)
    p = on_sheet held e

    some : 0 < length p.on.pile
    unfolding packed
    some = omega (arith, z, (known p).waiting)

    stands_forward : Standing (moved (packed h rows marks) n next left)
    unfolding packed
    stands_forward = subst (λ (m : ℕ). Standing (moved (packed h rows marks) m next left)) (sym counted) (stepped_forward_lem p some)

    gone_forward : {k : Kept} {f : Fixed} → Beside (forward_head h n k f) rows → k ≡ kept h.opening.width (take n (rules_in rows))
        → After (packed h rows marks) forward 0 (forward_head h n k f) rows marks
    unfolding Outcome written changed packed
    gone_forward beside found =
        record {
          outcome = accepted_reads _ p.reached p.gives forward (forward_fits _ some)
              (after_forward _ p.gives (reached_page p.reached) some
              ∙ (λ i. moved (packed h rows marks) (sym counted i) next left)
              ∙ moved_record held n next left stands_forward beside found);
          held = moved_held held n next left stands_forward beside found;
        }

  none_waits : (p : Standing (packed h rows marks)) → h.counts.waiting ≡ 0 → length p.on.pile ≡ 0
  unfolding packed
  none_waits p z = sym (known p).waiting ∙ z

  pub forward_after : {n : ℕ} {h' : Head} → Forwards h rows marks n h' → After (packed h rows marks) forward n h' rows marks
  unfolding Outcome
  forward_after (remains why) =
      record { outcome = refused_after held why forward blank_forward (λ z. omega arith) (λ p z. forward_none _ (none_waits p z)); held = held }
  forward_after (goes_on n k f e z counted beside found) = gone_forward e z n counted beside found
