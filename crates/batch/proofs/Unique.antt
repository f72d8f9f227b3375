-- No second outcome satisfies the batch call's statement, since it says what the outcome is. Read so, it says too that a
-- refusal leaves the buffer: wherever the batch stops, no link is written. Assumes nothing.
use mathlib.Core.Path.{◌≡◌, refl, sym, ap, ◌∙◌, subst}
use mathlib.Core.List.{List, [], ◌∷◌}
use Prim.Native.Nat.{ℕ, ◌+◌}
use native.Mathlib.Decide.{ℕ_discrete}
use borrow.Author.Tests.{eq-eqb, ne_eqb}
use lib.ListN.{length}
use Rattle.word.specs.declared.Edition.{Edition}
use Rattle.rule.specs.declared.Rule.{Rule}
use Rattle.chain.specs.declared.Link.{Link}
use Rattle.chain.specs.Links.{numbers_of}
use Rattle.page.specs.Calls.{add, after, ask, open_at, refusal}
use Rattle.page.specs.declared.Opening.{Opening}
use Rattle.page.specs.Page.{Page, no_page}
use Rattle.sheet.specs.Statements.{chain_on, overlaid, reply}
use Rattle.batch.specs.declared.course.Batch.{Batch}
use Rattle.batch.specs.course.Batch.{Batched, Ending, added, batch}
use Rattle.batch.proofs.course.Added.{add_goes, add-stops, open_goes, open_stops}

pub batched_unique : (g : Opening) (us : List Rule) {b b₁ b₂ : List ℕ} {r₁ r₂ : Batch} → Batched g us b b₁ r₁ → Batched g us b b₂ r₂
    → (r₁ ≡ r₂) × (b₁ ≡ b₂)
batched_unique g us h k = (h.answers ∙ sym k.answers, h.writes ∙ sym k.writes)

-- a refusal writes no link
abbrev Leaves : Ending → Type 0
Leaves o = (o.answer.reply.number ≡ 0 → ⊥) → o.chain ≡ []

asking_leaves : (pg : Page) (m : ℕ) → ((reply pg m).number ≡ 0 → ⊥) → chain_on pg m ≡ []
unfolding reply chain_on
asking_leaves pg m n = go (ℕ_discrete (refusal pg (ask m)) 0)
  where
    go : Dec (refusal pg (ask m) ≡ 0) → chain_on pg m ≡ []
    go (yes e) = absurd (n (rw (eq-eqb (refusal pg (ask m)) 0 e)))
    go (no k) = rw (ne_eqb (refusal pg (ask m)) 0 k)

added_leaves : (e : Edition) (pg : Page) (i : ℕ) (us : List Rule) (m : ℕ) → Leaves (added e pg i us m)
unfolding added
added_leaves e pg i [] m = asking_leaves pg m
added_leaves e pg i (u ∷ us) m = go (ℕ_discrete (refusal pg (add e u)) 0) (added_leaves e (after pg (add e u)) (i + 1) us m)
  where
    go : Dec (refusal pg (add e u) ≡ 0) → Leaves (added e (after pg (add e u)) (i + 1) us m) → Leaves (added e pg i (u ∷ us) m)
    go (yes y) rest = subst Leaves (sym (add_goes e pg i u us m y)) rest
    go (no k) _ = subst Leaves (sym (add-stops e pg i u us m k)) (λ _. refl)

batch_leaves : (g : Opening) (us : List Rule) (m : ℕ) → Leaves (batch g us m)
batch_leaves g us m = go (ℕ_discrete (refusal no_page (open_at g)) 0)
  where
    go : Dec (refusal no_page (open_at g) ≡ 0) → Leaves (batch g us m)
    go (yes e) = subst Leaves (sym (open_goes g us m e)) (added_leaves g.edition (after no_page (open_at g)) 0 us m)
    go (no k) = subst Leaves (sym (open_stops g us m k)) (λ _. refl)

pub batched_leaves : (g : Opening) (us : List Rule) {b b' : List ℕ} {r : Batch} → Batched g us b b' r → (r.reply.number ≡ 0 → ⊥)
    → b' ≡ b
unfolding numbers_of
batched_leaves g us {b} h k =
    h.writes
    ∙ ap (λ (ls : List Link). overlaid ls b)
    (batch_leaves g us (length b) (λ e. k (ap (λ (a : Batch). a.reply.number) h.answers ∙ e)))
