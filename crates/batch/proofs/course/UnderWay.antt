-- A batch on its way: the rules that are left come to what all of them come to, since each that was added was accepted. A refused one is where the
-- batch stops, and where none is left asking is the batch's answer. Assumes nothing.
use mathlib.Core.Path.{◌≡◌, refl, sym, ap, ◌∙◌}
use mathlib.Core.List.{List}
use Prim.Native.Nat.{ℕ, ◌≤◌}
use native.Mathlib.Omega.{arith}
use borrow.Author.Tests.{eq-eqb, ne_eqb}
use lib.ListN.{drop_of_length-le, length}
use Rattle.word.specs.declared.Edition.{Edition}
use Rattle.rule.specs.declared.Rule.{Rule}
use Rattle.chain.specs.Links.{numbers_of}
use Rattle.page.specs.Calls.{after, open_at, refusal}
use Rattle.page.specs.declared.Opening.{Opening}
use Rattle.page.specs.Page.{Page, no_page}
use Rattle.page.specs.Reached.{Reached, start}
use Rattle.sheet.specs.declared.slate_ask.Reply.{Reply}
use Rattle.sheet.specs.declared.Sheet.{Sheet}
use Rattle.sheet.specs.Statements.{Asked, refuses}
use Rattle.sheet.proofs.demands.Demand.{after_reached}
use Rattle.batch.specs.adds.route.Course.{Stopped, Under, Went, begun, further}
use Rattle.batch.specs.begun.route.Begun.{Begun, opens}
use Rattle.batch.specs.declared.course.Batch.{Batch}
use Rattle.batch.specs.course.Batch.{Gives, added, batches, stops}
use Rattle.batch.specs.course.route.Route.{batch_at}
use Rattle.batch.proofs.course.Added.{add_goes, add-stops}

-- ---- the adds

module _ {e : Edition} {pg : Page} {us : List Rule} (m : ℕ) where
  went_on : {on : Page} {i : ℕ} {vs : List Rule} → Went e pg us on i vs → added e pg 0 us m ≡ added e on i vs m
  went_on begun = refl
  went_on (further w z) = went_on w ∙ add_goes e _ _ _ _ m z

  stop_way : {n i : ℕ} {t : Sheet} → Stopped e us pg n i t → (n ≡ 0 → ⊥) → added e pg 0 us m ≡ stops n i
  stop_way {n} {i} s z =
      went_on s.went ∙ add-stops e s.on i s.this s.left m (λ q. z (sym s.refuses ∙ q)) ∙ ap (λ (k : ℕ). stops k i) s.refuses

module _ (e : Edition) (us : List Rule) where
  -- all are added, and the sheet is asked
  asked_way : {pg : Page} {t : Sheet} (i : ℕ) → i ≡ length us → Under e us pg i t → {b b' : List ℕ} {a : Reply} → Asked t b b' a
      → Gives (added e pg 0 us (length b)) b b' (batches a i)
  unfolding added
  asked_way {pg} i all w {b} {b'} {a} asked =
      let k = asked.on_page w.on w.reached w.gives in
      let l : length us ≤ i = omega (arith, all) in
      rw (went_on (length b) w.went, drop_of_length-le us l) (record { answers = ap (λ (r : Reply). batches r i) k.0; writes = k.1 })

-- ---- the whole

stopped : (k i : ℕ) (b : List ℕ) → Gives (stops k i) b b (batches (refuses k) i)
unfolding numbers_of
stopped k i b = record { answers = refl; writes = refl }

module _ (g : Opening) (us : List Rule) (n : ℕ) where
  abbrev opened_page : Page
  opened_page = after no_page (open_at g)

  reached : Reached opened_page
  reached = after_reached start (open_at g)

  opening_stops : {k : ℕ} → refusal no_page (open_at g) ≡ k → (k ≡ 0 → ⊥) → (b : List ℕ) {a : Reply} {r : Batch} → r ≡ batches a n → a ≡ refuses k
      → Gives (batch_at g us n (length b)) b b r
  unfolding batch_at
  opening_stops {k} q z b e f = rw (e, f, ne_eqb (refusal no_page (open_at g)) 0 (λ p. z (sym q ∙ p)), q) (stopped k n b)

  goes_on : refusal no_page (open_at g) ≡ 0 → (m : ℕ) → batch_at g us n m ≡ added g.edition opened_page 0 us m
  unfolding batch_at
  goes_on z m = rw (eq-eqb (refusal no_page (open_at g)) 0 z)

  pub refused_batch : {t : Sheet} {k i : ℕ} → Begun g us n t k i → (k ≡ 0 → ⊥) → (b : List ℕ) {a : Reply} {r : Batch} → r ≡ batches a i → a ≡ refuses k
      → Gives (batch_at g us n (length b)) b b r
  refused_batch (Begun.refuses q z g₁) y b e f = opening_stops q z b e f
  refused_batch {k = k} {i = i} (opens z came) y b e f =
      rw (e, f, goes_on z (length b), stop_way (length b) (came.refused y opened_page reached refl) y) (stopped k i b)

  pub asked_batch : {t : Sheet} {k i : ℕ} → Begun g us n t k i → k ≡ 0 → {b b' : List ℕ} {a : Reply} → Asked t b b' a → {r : Batch} → r ≡ batches a i
      → Gives (batch_at g us n (length b)) b b' r
  asked_batch (Begun.refuses q z g₁) y asked e = absurd (z y)
  asked_batch {i = i} (opens z came) y {b} asked e =
      let w = came.went y opened_page reached refl in
      rw (e, goes_on z (length b)) (asked_way g.edition us i w.0 w.1 asked)
