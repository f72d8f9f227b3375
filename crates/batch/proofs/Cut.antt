-- The batch of the rules that are read is the batch of the whole list: an accepted add leaves one rule more on the page, so that the rule
-- after as many as a sheet takes is refused at the latest, and the rules past it change nothing. Assumes nothing.
use mathlib.Core.Path.{◌≡◌, refl, sym, ap, ◌∙◌, subst}
use mathlib.Core.List.{List, [], ◌∷◌}
use Prim.Native.Nat.{ℕ, zero, suc, ◌+◌, ◌≤◌, ◌<◌}
use native.Mathlib.Decide.{dec_lt, ℕ_discrete}
use native.Mathlib.Omega.{arith}
use borrow.Author.Tests.{eq-eqb, le-ltb, lt-ltb, ne_eqb}
use lib.ListN.{length, length-append, take}
use lib.Seq.{take_all}
use Rattle.word.specs.declared.Edition.{Edition}
use Rattle.rule.specs.declared.Rule.{Rule}
use Rattle.rule.specs.Meaning.{RULES}
use Rattle.page.specs.Calls.{add, changed, open_at, refusal, written}
use Rattle.page.specs.declared.Opening.{Opening}
use Rattle.page.specs.Page.{OpenPage, a_rule, new_page, no_page, page, rules_on, with_entries}
use Rattle.page.proofs.Refusals.{added_rule, after_accepted}
use Rattle.batch.specs.declared.course.Batch.{Batch}
use Rattle.batch.specs.course.Batch.{Batched, Ending, Gives, MOST, added, batch}
use Rattle.batch.specs.course.route.Route.{batch_at}
use Rattle.batch.proofs.course.Added.{add_goes, add-stops}
use Rattle.batch.specs.adds.route.Few.{few}

module _ (e : Edition) (m : ℕ) where
  abbrev many : OpenPage → ℕ
  many o = length (rules_on o.entries)

  cut : (o : OpenPage) (i k : ℕ) (us : List Rule) → many o ≤ RULES → RULES < k + many o → added e (page o) i (take k us) m ≡ added e (page o) i us m
  unfolding written changed rules_on
  cut o i zero us l h = absurd (omega arith)
  cut o i (suc k) [] l h = refl
  cut o i (suc k) (u ∷ us) l h = go (cut next (i + 1) k us) (ℕ_discrete (refusal (page o) (add e u)) 0)
    where
      next : OpenPage
      next = with_entries o (a_rule u ∷ o.entries)

      more : many next ≡ many o + 1
      more = length-append (rules_on o.entries) (u ∷ [])

      go : (many next ≤ RULES → RULES < k + many next → added e (page next) (i + 1) (take k us) m ≡ added e (page next) (i + 1) us m)
          → Dec (refusal (page o) (add e u) ≡ 0) → added e (page o) i (u ∷ take k us) m ≡ added e (page o) i (u ∷ us) m
      go rest (no z) = add-stops e (page o) i u _ m z ∙ sym (add-stops e (page o) i u us m z)
      go rest (yes z) =
          let room = (added_rule o e u z).2 in
          add_goes e (page o) i u _ m z
          ∙ rw (after_accepted (page o) (add e u) z) (rest (omega (arith, more, room)) (omega (arith, more)))
          ∙ sym (add_goes e (page o) i u us m z)

module _ (g : Opening) (us : List Rule) (m : ℕ) where
  abbrev n : ℕ
  n = length us

  all_read : n ≤ MOST → batch_at g (take n us) n m ≡ batch g us m
  unfolding batch_at batch
  all_read l = ap (λ (vs : List Rule). batch_at g vs n m) (take_all n us (omega arith))

  first_read : MOST < n → batch_at g (take MOST us) n m ≡ batch g us m
  unfolding batch_at batch written rules_on
  first_read l = go (ℕ_discrete (refusal no_page (open_at g)) 0)
    where
      go : Dec (refusal no_page (open_at g) ≡ 0) → batch_at g (take MOST us) n m ≡ batch g us m
      go (yes z) = rw (eq-eqb (refusal no_page (open_at g)) 0 z, after_accepted no_page (open_at g) z) (cut g.edition m (new_page g) 0 MOST us (omega arith) (omega arith))
      go (no z) = rw (ne_eqb (refusal no_page (open_at g)) 0 z)

  pub few_read : batch_at g (take (few n) us) n m ≡ batch g us m
  few_read = go (dec_lt MOST n)
    where
      go : Dec (MOST < n) → batch_at g (take (few n) us) n m ≡ batch g us m
      go (yes l) = rw (lt-ltb MOST n l) (first_read l)
      go (no l) = rw (le-ltb MOST n (omega arith)) (all_read (omega arith))

-- what the batch of the rules that are read gives, the batch gives
pub read_so : (g : Opening) (us list : List Rule) {b b' : List ℕ} {r : Batch} → take (few (length us)) list ≡ take (few (length us)) us
    → Gives (batch_at g (take (few (length us)) list) (length us) (length b)) b b' r → Batched g us b b' r
read_so g us list {b} {b'} {r} e f =
    subst (λ (o : Ending). Gives o b b' r) (ap (λ (vs : List Rule). batch_at g vs (length us) (length b)) e ∙ few_read g us (length b)) f
