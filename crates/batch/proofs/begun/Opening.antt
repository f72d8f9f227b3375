-- The opening of a batch: it is made on the record of no page, so that its number is that of the table, and where it is accepted the slate stands
-- for the fresh page. Assumes nothing.
use mathlib.Core.Path.{◌≡◌, sym, ap, ◌∙◌, subst}
use mathlib.Core.List.{List}
use Prim.Native.Nat.{ℕ}
use Rattle.std.specs.Prelude.{Result, Ok, Err, MatchResult}
use lib.ListN.{length}
use Rattle.word.specs.declared.Edition.{Edition}
use Rattle.rule.specs.declared.Rule.{Rule}
use Rattle.page.specs.Calls.{after, open_at, refusal, written}
use Rattle.page.specs.declared.Opening.{Opening}
use Rattle.page.specs.Page.{no_page}
use Rattle.page.specs.Reached.{start}
use Rattle.page.proofs.Refusals.{after_accepted}
use Rattle.sheet.specs.declared.slate.Head.{Head}
use Rattle.sheet.specs.declared.Answer.{Answer}
use Rattle.sheet.specs.declared.Sheet.{Sheet}
use Rattle.sheet.specs.slate.route.Held.{Held}
use Rattle.sheet.specs.route.Held.{packed}
use Rattle.sheet.specs.route.Laid.{After}
use Rattle.sheet.specs.Record.{blank, fresh}
use Rattle.sheet.specs.Statements.{IsSheet, answers}
use Rattle.sheet.proofs.demands.Demand.{after_reached, outcome_on}
use Rattle.batch.specs.declared.adds.Stop.{Stop}
use Rattle.batch.specs.adds.route.Course.{Came}
use Rattle.batch.specs.begun.route.Begun.{Begun, opens, refuses}

module _ (g : Opening) {s : Sheet} (laid : s ≡ blank) {k : ℕ} {h : Head} {rows : List (List ℕ)} {marks : List ℕ}
    (after_open : After s (open_at g) k h rows marks) where
  said : answers k (packed h rows marks) ≡ answers (refusal no_page (open_at g)) (fresh (after no_page (open_at g)))
  unfolding fresh
  said = outcome_on no_page laid start (open_at g) after_open.outcome

  number_is : refusal no_page (open_at g) ≡ k
  number_is = sym (ap (λ (a : Answer). a.number) said)

  sheet_is : packed h rows marks ≡ fresh (after no_page (open_at g))
  sheet_is = ap (λ (a : Answer). a.sheet) said

  pub opened_sheet : IsSheet (packed h rows marks)
  opened_sheet = record { on = after no_page (open_at g); reached = after_reached start (open_at g); gives = sheet_is }

  -- an accepted opening's edition is the sheet's
  edition_is : k ≡ 0 → h.opening.edition ≡ g.edition
  unfolding packed fresh written
  edition_is z = ap (λ (v : Sheet). v.edition) (sheet_is ∙ ap fresh (after_accepted no_page (open_at g) (number_is ∙ z)))

  module _ (us : List Rule) (n : ℕ) where
    pub refused_opening : (k ≡ 0 → ⊥) → Begun g us n (packed h rows marks) k n
    refused_opening z = refuses number_is z sheet_is

    -- what the adds came to on the sheet that was opened
    module _ (z : k ≡ 0) where
      pub opened_so : {t : Sheet} {j i : ℕ} → Came h.opening.edition us (packed h rows marks) t j i → Begun g us n t j i
      opened_so {t} {j} {i} came =
          let here = subst (λ (v : Sheet). Came h.opening.edition us v t j i) sheet_is came in
          opens (number_is ∙ z) (subst (λ (e : Edition). Came e us (fresh (after no_page (open_at g))) t j i) (edition_is z) here)

      pub passed_on : (rows' : List (List ℕ)) (marks' : List ℕ) (r : Result Head Stop)
          → MatchResult r (λ h'. Held h' rows' marks' × Came h.opening.edition us (packed h rows marks) (packed h' rows' marks') 0 (length us))
          (λ s. Held s.head rows' marks' × (s.number ≡ 0 → ⊥) × Came h.opening.edition us (packed h rows marks) (packed s.head rows' marks') s.number s.place)
          → MatchResult r (λ h'. Held h' rows' marks' × Begun g us n (packed h' rows' marks') 0 (length us))
          (λ s. Held s.head rows' marks' × (s.number ≡ 0 → ⊥) × Begun g us n (packed s.head rows' marks') s.number s.place)
      passed_on rows' marks' (Ok h') p = (p.0, opened_so p.1)
      passed_on rows' marks' (Err s) p = (p.0, p.1, opened_so p.2)
