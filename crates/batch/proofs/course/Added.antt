-- The definition of the batch, a call at a time: a refused opening or rule stops it, and an accepted one leaves what the rest
-- comes to. Assumes nothing.
use mathlib.Core.Path.{◌≡◌}
use mathlib.Core.List.{List, ◌∷◌}
use Prim.Native.Nat.{ℕ, ◌+◌}
use borrow.Author.Tests.{eq-eqb, ne_eqb}
use lib.ListN.{length}
use Rattle.word.specs.declared.Edition.{Edition}
use Rattle.rule.specs.declared.Rule.{Rule}
use Rattle.page.specs.Calls.{add, after, open_at, refusal}
use Rattle.page.specs.declared.Opening.{Opening}
use Rattle.page.specs.Page.{Page, no_page}
use Rattle.batch.specs.course.Batch.{added, batch, stops}

module _ (g : Opening) (us : List Rule) (m : ℕ) where
  pub open_goes : refusal no_page (open_at g) ≡ 0 → batch g us m ≡ added g.edition (after no_page (open_at g)) 0 us m
  unfolding batch
  open_goes e = rw (eq-eqb (refusal no_page (open_at g)) 0 e)

  pub open_stops : (refusal no_page (open_at g) ≡ 0 → ⊥) → batch g us m ≡ stops (refusal no_page (open_at g)) (length us)
  unfolding batch
  open_stops z = rw (ne_eqb (refusal no_page (open_at g)) 0 z)

module _ (e : Edition) (pg : Page) (i : ℕ) (u : Rule) (us : List Rule) (m : ℕ) where
  pub add_goes : refusal pg (add e u) ≡ 0 → added e pg i (u ∷ us) m ≡ added e (after pg (add e u)) (i + 1) us m
  unfolding added
  add_goes z = rw (eq-eqb (refusal pg (add e u)) 0 z)

  pub add-stops : (refusal pg (add e u) ≡ 0 → ⊥) → added e pg i (u ∷ us) m ≡ stops (refusal pg (add e u)) i
  unfolding added
  add-stops z = rw (ne_eqb (refusal pg (add e u)) 0 z)
