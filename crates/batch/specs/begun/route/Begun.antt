-- A route: what the opening and the adds of a batch came to, by pages. That it leads to what a batch is to answer is proved in `batch`.
use Rattle.std.specs.Prelude.{◌≡◌, List, ℕ}
use Rattle.rule.specs.declared.Rule.{Rule}
use Rattle.page.specs.Calls.{after, open_at, refusal}
use Rattle.page.specs.declared.Opening.{Opening}
use Rattle.page.specs.Page.{no_page}
use Rattle.sheet.specs.declared.Sheet.{Sheet}
use Rattle.sheet.specs.Record.{fresh}
use Rattle.batch.specs.adds.route.Course.{Came}

-- the number, and the place where it is said, with the record that is left; n is where a refused opening is said
pub data Begun (g : Opening) (us : List Rule) (n : ℕ) (t : Sheet) : (number place : ℕ) → Type 0 where
  refuses : {k : ℕ} → refusal no_page (open_at g) ≡ k → (k ≡ 0 → ⊥) → t ≡ fresh (after no_page (open_at g)) → Begun g us n t k n
  opens : {k i : ℕ} → refusal no_page (open_at g) ≡ 0 → Came g.edition us (fresh (after no_page (open_at g))) t k i → Begun g us n t k i
