-- The adds of a list on their way stand on a reached page with some rules still to be added. Each accepted add leaves them there with one rule
-- less to add, and a refused one is where they stop. Assumes nothing.
use mathlib.Core.Path.{◌≡◌, sym, ap, ◌∙◌, subst}
use mathlib.Core.List.{List, ◌∷◌}
use Prim.Native.Nat.{ℕ, suc, ◌+◌, ◌<◌}
use native.Mathlib.Numerals.{add-one}
use lib.ListN.{drop, get_or, length}
use lib.Seq.{drop-cons}
use Rattle.word.specs.declared.Edition.{Edition}
use Rattle.rule.specs.declared.Rule.{Rule}
use Rattle.rule.specs.accept.Accept.{no_rule}
use Rattle.page.specs.Calls.{add, after, refusal}
use Rattle.page.specs.Page.{Page}
use Rattle.page.specs.Reached.{Reached}
use Rattle.sheet.specs.declared.slate.Head.{Head}
use Rattle.sheet.specs.declared.Answer.{Answer}
use Rattle.sheet.specs.declared.Sheet.{Sheet}
use Rattle.sheet.specs.route.Held.{packed}
use Rattle.sheet.specs.route.Laid.{After}
use Rattle.sheet.specs.Record.{fresh}
use Rattle.sheet.specs.Statements.{answers}
use Rattle.sheet.proofs.demands.Demand.{after_reached, outcome_on}
use Rattle.batch.specs.adds.route.Course.{Stopped, Under, Went, begun, further}

module _ (e : Edition) (us : List Rule) where
  pub begun_way : {pg : Page} → Reached pg → {t : Sheet} → t ≡ fresh pg → Under e us pg 0 t
  begun_way {pg} h q = record { on = pg; reached = h; gives = q; went = begun }

  module _ (i : ℕ) (here : i < length us) {pg : Page} {t : Sheet} (w : Under e us pg i t) {u : Rule} (this : get_or us i no_rule ≡ u) {n : ℕ} {h : Head} {rows : List (List ℕ)}
      {marks : List ℕ} (after_add : After t (add e u) n h rows marks) where
    told : answers n (packed h rows marks) ≡ answers (refusal w.on (add e u)) (fresh (after w.on (add e u)))
    told = outcome_on w.on w.gives w.reached (add e u) after_add.outcome

    number_is : refusal w.on (add e u) ≡ n
    number_is = sym (ap (λ (a : Answer). a.number) told)

    sheet_is : packed h rows marks ≡ fresh (after w.on (add e u))
    sheet_is = ap (λ (a : Answer). a.sheet) told

    -- the rules that are left, this one first
    to_add : Went e pg us w.on i (u ∷ drop (i + 1) us)
    to_add =
        subst (Went e pg us w.on i)
        (rw (add-one i) (drop-cons us i no_rule here ∙ ap (λ (v : Rule). v ∷ drop (suc i) us) this)) w.went

    pub step_way : n ≡ 0 → Under e us pg (i + 1) (packed h rows marks)
    step_way z =
        record {
          on = after w.on (add e u);
          reached = after_reached w.reached (add e u);
          gives = sheet_is;
          went = further to_add (number_is ∙ z);
        }

    pub stop_way : Stopped e us pg n i (packed h rows marks)
    stop_way = record { on = w.on; this = u; left = drop (i + 1) us; went = to_add; refuses = number_is; gives = sheet_is }
