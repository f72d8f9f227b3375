-- The batch of the rules that are read. A route: that it is the batch of the whole list is proved where the list is read (`batch: Cut`).
use Rattle.std.specs.Prelude.{cond, List, ℕ, eqb}
use Rattle.rule.specs.declared.Rule.{Rule}
use Rattle.page.specs.Calls.{after, open_at, refusal}
use Rattle.page.specs.declared.Opening.{Opening}
use Rattle.page.specs.Page.{no_page}
use Rattle.batch.specs.course.Batch.{Ending, added, stops}

-- the batch of these rules, where n rules were given: a refused opening is said at the list's length
unfoldable pub batch_at : Opening → List Rule → (n m : ℕ) → Ending
batch_at g us n m =
    let k : ℕ = refusal no_page (open_at g) in
    cond (eqb k 0) (added g.edition (after no_page (open_at g)) 0 us m) (stops k n)
