-- A route: how far the adds of a list came, page by page. That it leads to what a batch is to answer is proved in `batch`.
use Rattle.std.specs.Prelude.{◌≡◌, List, ◌∷◌, ℕ, ◌+◌, drop, length}
use Rattle.word.specs.declared.Edition.{Edition}
use Rattle.rule.specs.declared.Rule.{Rule}
use Rattle.page.specs.Calls.{add, after, refusal}
use Rattle.page.specs.Page.{Page}
use Rattle.page.specs.Reached.{Reached}
use Rattle.sheet.specs.declared.Sheet.{Sheet}
use Rattle.sheet.specs.Record.{fresh}

-- from the page pg so many of the rules us were added one after another, each accepted, and these are left
pub data Went (e : Edition) (pg : Page) (us : List Rule) : Page → ℕ → List Rule → Type 0 where
  begun : Went e pg us pg 0 us
  further : {on : Page} {i : ℕ} {u : Rule} {vs : List Rule} → Went e pg us on i (u ∷ vs) → refusal on (add e u) ≡ 0
      → Went e pg us (after on (add e u)) (i + 1) vs

-- from the page pg the first i rules were added, which gave the record t
pub record Under (e : Edition) (us : List Rule) (pg : Page) (i : ℕ) (t : Sheet) : Type 0 where
  pub on : Page
  pub reached : Reached on
  pub gives : t ≡ fresh on
  pub went : Went e pg us on i (drop i us)

-- the rule after the first i is refused with n, which leaves the record t
pub record Stopped (e : Edition) (us : List Rule) (pg : Page) (n i : ℕ) (t : Sheet) : Type 0 where
  pub on : Page
  pub this : Rule
  pub left : List Rule
  pub went : Went e pg us on i (this ∷ left)
  pub refuses : refusal on (add e this) ≡ n
  pub gives : t ≡ fresh (after on (add e this))

-- the number n and the place i that the adds to the record s, a sheet, came to, and the record t that they left
pub record Came (e : Edition) (us : List Rule) (s t : Sheet) (n i : ℕ) : Type 0 where
  -- refused at the rule i
  pub refused : (n ≡ 0 → ⊥) → (pg : Page) → Reached pg → s ≡ fresh pg → Stopped e us pg n i t
  -- or all are added
  pub went : n ≡ 0 → (pg : Page) → Reached pg → s ≡ fresh pg → (i ≡ length us) × Under e us pg i t
