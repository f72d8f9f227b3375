-- What a call does that changes a sheet which a caller keeps, by its numbers ns before and ns' after.
use Rattle.std.specs.Prelude.{◌≡◌, cond, List, ℕ, eqb}
use Rattle.page.specs.Calls.{Call, after, open_at, refusal}
use Rattle.page.specs.declared.Opening.{Opening}
use Rattle.page.specs.Page.{Page, new_page, no_page, page}
use Rattle.page.specs.Reached.{Reached}
use Rattle.sheet.specs.Record.{fresh}
use Rattle.keeping.specs.kept_numbers.Numbers.{IsKept, numbers_of}

-- "A refused opening keeps the old sheet; an accepted one discards it."
pub record Opened (g : Opening) (ns ns' : List ℕ) (r : ℕ) : Type 0 where
  pub number : r ≡ refusal no_page (open_at g)
  pub numbers : ns' ≡ cond (eqb (refusal no_page (open_at g)) 0) (numbers_of (fresh (page (new_page g)))) ns

-- "a spoiled sheet gets 17 and is left as it was"; else the number of the table, with the sheet of the page after the call, which a refused
-- call leaves
pub record Changed (c : Call) (ns ns' : List ℕ) (r : ℕ) : Type 0 where
  pub spoiled : (IsKept ns → ⊥) → (r ≡ 17) × (ns' ≡ ns)
  pub on_page : (pg : Page) → Reached pg → ns ≡ numbers_of (fresh pg) → (r ≡ refusal pg c) × (ns' ≡ numbers_of (fresh (after pg c)))
