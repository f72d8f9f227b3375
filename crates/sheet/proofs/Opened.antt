-- An opening on a slate is the opening on its record: every place is emptied, as on a new page. Assumes nothing.
use mathlib.Core.Path.{◌≡◌, refl, ap, ◌∙◌}
use mathlib.Core.List.{List, []}
use Prim.Native.Nat.{ℕ, ◌≤◌}
use native.Mathlib.Omega.{arith}
use lib.ListN.{replicate}
use Rattle.word.specs.Edition.{terms}
use Rattle.rule.specs.Meaning.{RULES}
use Rattle.rule.specs.accept.Accept.{no_rule}
use Rattle.search.specs.declared.verdict.Kept.{Kept}
use Rattle.search.specs.verdict.Kept.{kept}
use Rattle.page.specs.Calls.{changed, open_at, written}
use Rattle.page.specs.declared.Opening.{Opening}
use Rattle.page.specs.Page.{MARKS, marks_on, new_page, no_page, page, restored, rules_on}
use Rattle.page.specs.Reached.{start, step}
use Rattle.page.proofs.Refusals.{open_fits, open_narrow, open_wide}
use Rattle.search.specs.rows.route.Rows.{rules_in}
use Rattle.sheet.specs.declared.slate.Head.{Head}
use Rattle.sheet.specs.slate.route.Held.{Beside, Held}
use Rattle.sheet.specs.slate.slate_calls.route.Done.{Opens, new_head}
use Rattle.sheet.specs.slate.slate_calls.route.Done.Opens.{narrow, opened, wide}
use Rattle.sheet.proofs.slate.slate_calls.Bare.{room_opened}
use Rattle.sheet.specs.route.Held.{packed}
use Rattle.sheet.specs.route.Laid.{After}
use Rattle.sheet.specs.Record.{fresh}
use Rattle.sheet.specs.Statements.{Outcome, answers}
use Rattle.sheet.proofs.Holding.{still_held}
use Rattle.sheet.proofs.Ways.{accepted_open, refused_open}

module _ {h : Head} {rows : List (List ℕ)} {marks : List ℕ} (held : Held h rows marks) (g : Opening) where
  module _ (low : 1 ≤ g.width) (high : g.width ≤ (terms g.edition).widest) (rows' : List (List ℕ)) (marks' : List ℕ) (k : Kept)
      (emptied : rules_in rows' ≡ replicate RULES no_rule) (unmarked : marks' ≡ replicate MARKS 0) (beside : Beside (new_head g k) rows') (found : k ≡ kept g.width []) where
    record_open : packed (new_head g k) rows' marks' ≡ fresh (page (new_page g))
    unfolding packed fresh rules_on marks_on restored
    record_open =
        λ i. record {
          width = g.width;
          rules = emptied i;
          count = 0;
          marks = unmarked i;
          marked = 0;
          kept = found i;
          given = 0;
          waiting = 0;
          edition = g.edition;
        }

    opened_so : After (packed h rows marks) (open_at g) 0 (new_head g k) rows' marks'
    unfolding Outcome written changed
    opened_so =
        let fits = open_fits no_page g low high in
        record {
          outcome = ap (answers 0) record_open ∙ accepted_open (packed h rows marks) g fits;
          held = still_held (record { on = new_page g; reached = step start (open_at g) fits; gives = record_open }) refl
              (room_opened emptied unmarked) beside;
        }

  pub open_after : {n : ℕ} {h' : Head} {rows' : List (List ℕ)} {marks' : List ℕ} → Opens h rows marks g n h' rows' marks' → After (packed h rows marks) (open_at g) n h' rows' marks'
  unfolding Outcome
  open_after (narrow l) = record { outcome = refused_open _ g (open_narrow no_page g l) (λ z. omega arith); held = held }
  open_after (wide l) = record { outcome = refused_open _ g (open_wide no_page g l) (λ z. omega arith); held = held }
  open_after (opened k low high emptied unmarked beside found) = opened_so low high _ _ k emptied unmarked beside found
