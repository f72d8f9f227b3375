-- An add on a slate is the add on its record: the rules and the marks are those of the page with one rule more. Assumes
-- nothing.
use mathlib.Core.Path.{◌≡◌, refl, sym, ap, ◌∙◌, subst}
use mathlib.Core.List.{List}
use Prim.Native.Nat.{ℕ, ◌+◌}
use lib.ListN.{set, take}
use Rattle.word.specs.declared.Edition.{Edition}
use Rattle.rule.specs.declared.Rule.{Rule}
use Rattle.rule.specs.declared.bits.Fixed.{Fixed}
use Rattle.search.specs.declared.verdict.Kept.{Kept}
use Rattle.search.specs.verdict.Kept.{kept}
use Rattle.page.specs.Calls.{add, changed, refusal, written}
use Rattle.page.specs.Page.{page}
use Rattle.page.proofs.Lawful.{reached_page}
use Rattle.page.proofs.Refusals.{added_rule}
use Rattle.search.specs.rows.route.Rows.{rules_in}
use Rattle.sheet.specs.declared.slate.Head.{Head}
use Rattle.sheet.specs.slate.route.Held.{Beside, Held, bare_marks}
use Rattle.sheet.specs.slate.route.Numbers.{rule_number}
use Rattle.sheet.proofs.slate.Numbers.{number_zero}
use Rattle.sheet.specs.slate.slate_calls.route.Done.{Adds, bare_rules, with_one}
use Rattle.sheet.specs.slate.slate_calls.route.Done.Adds.{added, refused}
use Rattle.sheet.proofs.slate.slate_calls.Bare.{room_added}
use Rattle.sheet.specs.route.Held.{packed}
use Rattle.sheet.specs.route.Laid.{After}
use Rattle.sheet.specs.route.Stands.{RuleSeen, Standing}
use Rattle.sheet.specs.Statements.{Outcome}
use Rattle.sheet.proofs.Fresh.{after_add, cleared, with_rule}
use Rattle.sheet.proofs.Holding.{rule_so, still_held}
use Rattle.sheet.proofs.Stands.{accepted_rule, refused_rule, with_rule_lem}
use Rattle.sheet.proofs.Ways.{accepted_reads}

module _ {h : Head} {rows : List (List ℕ)} {marks : List ℕ} (held : Held h rows marks) where
  module _ (d : Edition) (u : Rule) (q : rule_number h d u ≡ 0) where
    on : (p : Standing (packed h rows marks)) × (refusal (page p.on) (add d u) ≡ 0)
    on = accepted_rule (rule_so held d u) q

    module _ (rows' : List (List ℕ)) (marks' : List ℕ) (k : Kept) (f : Fixed) (put : rules_in rows' ≡ set (bare_rules h rows) h.counts.count u)
        (unmarked : marks' ≡ bare_marks h marks) (beside : Beside (with_one h k f) rows')
        (found : k ≡ kept h.opening.width (take (h.counts.count + 1) (rules_in rows'))) where
      record_more : with_rule (cleared (packed h rows marks)) u ≡ packed (with_one h k f) rows' marks'
      unfolding packed
      record_more =
          λ i. record {
            width = h.opening.width;
            rules = sym put i;
            count = h.counts.count + 1;
            marks = sym unmarked i;
            marked = h.counts.marked;
            kept = (ap (λ (l : List Rule). kept h.opening.width (take (h.counts.count + 1) l)) (sym put) ∙ sym found) i;
            given = h.counts.count + 1;
            waiting = 0;
            edition = h.opening.edition;
          }

      accepted_after : After (packed h rows marks) (add d u) 0 (with_one h k f) rows' marks'
      unfolding Outcome written changed
      accepted_after =
          let p = on.0 in
          let room = (added_rule _ _ _ on.1).2 in
          record {
            outcome = accepted_reads _ p.reached p.gives (add d u) on.1 (after_add _ p.gives (reached_page p.reached) u room ∙ record_more);
            held = still_held (subst Standing record_more (with_rule_lem d u p on.1)) refl
                (room_added held (number_zero h d u q) u put unmarked) beside;
          }

  pub add_after : {d : Edition} {u : Rule} {n : ℕ} {h' : Head} {rows' : List (List ℕ)} {marks' : List ℕ} → Adds h rows marks d u n h' rows' marks'
      → After (packed h rows marks) (add d u) n h' rows' marks'
  unfolding Outcome
  add_after {d} {u} (refused e z) = record { outcome = refused_rule (subst (RuleSeen (packed h rows marks) d u) (sym e) (rule_so held d u)) z; held = held }
  add_after {d} {u} (added k f q put unmarked beside found) = accepted_after d u q _ _ k f put unmarked beside found
