-- The page that a list makes is one that accepted calls reach, and the place of a list of which all is accepted is its length, each by induction
-- on the list. Assumes nothing.
use mathlib.Core.Path.{◌≡◌, refl, sym, ◌∙◌}
use mathlib.Core.Bool.{Bool, true, false, cond}
use mathlib.Core.List.{List, [], ◌∷◌}
use Prim.Native.Nat.{ℕ, ◌+◌}
use native.Mathlib.Decide.{ℕ_discrete}
use native.Mathlib.Omega.{arith}
use borrow.Author.Tests.{eq-eqb, ne_eqb}
use lib.Dec.{eqb}
use lib.ListN.{length}
use Rattle.word.specs.declared.Edition.{Edition}
use Rattle.rule.specs.declared.Rule.{Rule}
use Rattle.page.specs.Calls.{add, after, open_at, refusal}
use Rattle.page.specs.declared.Opening.{Opening}
use Rattle.page.specs.Page.{Page, no_page}
use Rattle.page.specs.Reached.{Reached, start}
use Rattle.sheet.proofs.demands.Demand.{after_reached}
use Rattle.outside.specs.making.Made.{Making, adding, makes, making}

either : (t : Bool) (a b : Making) → Reached a.on → Reached b.on → Reached (cond t a b).on
either true a b p q = p
either false a b p q = q

adding_reached : (e : Edition) (pg : Page) → Reached pg → (i : ℕ) (us : List Rule) → Reached (adding e pg i us).on
unfolding adding
adding_reached e pg h i [] = h
adding_reached e pg h i (u ∷ us) =
    either (eqb (refusal pg (add e u)) 0) _ _ (adding_reached e (after pg (add e u)) (after_reached h (add e u)) (i + 1) us) h

pub makes_reached : (g : Opening) (us : List Rule) → Reached (makes g us).on
unfolding makes
makes_reached g us =
    either (eqb (refusal no_page (open_at g)) 0) _ _ (adding_reached g.edition (after no_page (open_at g)) (after_reached start (open_at g)) 0 us) start

-- where the test decides for the first only if the second is refused
passed : (k : ℕ) (a b : Making) {n : ℕ} → b.number ≡ k → (a.number ≡ 0 → a.place ≡ n) → (cond (eqb k 0) a b).number ≡ 0 → (cond (eqb k 0) a b).place ≡ n
passed k a b {n} e p = go (ℕ_discrete k 0)
  where
    go : Dec (k ≡ 0) → (cond (eqb k 0) a b).number ≡ 0 → (cond (eqb k 0) a b).place ≡ n
    go (yes z) = rw (eq-eqb k 0 z) p
    go (no z) = rw (ne_eqb k 0 z) (λ h. absurd (z (sym e ∙ h)))

adding_place : (e : Edition) (pg : Page) (i : ℕ) (us : List Rule) → (adding e pg i us).number ≡ 0 → (adding e pg i us).place ≡ i + length us
unfolding adding
adding_place e pg i [] = λ _. omega arith
adding_place e pg i (u ∷ us) =
    passed (refusal pg (add e u)) (adding e (after pg (add e u)) (i + 1) us) (making (refusal pg (add e u)) i pg) refl
    (λ z. adding_place e (after pg (add e u)) (i + 1) us z ∙ omega arith)

pub makes_place : (g : Opening) (us : List Rule) → (makes g us).number ≡ 0 → (makes g us).place ≡ length us
unfolding makes
makes_place g us =
    passed (refusal no_page (open_at g)) (adding g.edition (after no_page (open_at g)) 0 us) (making (refusal no_page (open_at g)) (length us) no_page) refl
    (λ z. adding_place g.edition (after no_page (open_at g)) 0 us z ∙ omega arith)
