-- "says beside that answer at which rule (for 2, for 9 and where nothing is refused: the list's length)": the place is the list's
-- length, or that of a rule in the list, and then the number is one of 3 to 6. No rule is refused with 1 or 11, since the page is
-- open and of the edition that the rules are added in. Assumes nothing.
use mathlib.Core.Path.{◌≡◌, refl, sym}
use mathlib.Core.Bool.{Bool, true, false, false≢true, not}
use mathlib.Core.List.{List, [], ◌∷◌}
use Prim.Native.Nat.{ℕ, ◌+◌, ◌<◌, ◌≤◌}
use native.Mathlib.Decide.{ℕ_discrete}
use native.Mathlib.Omega.{arith}
use lib.ListN.{length}
use Rattle.word.specs.declared.Edition.{Edition}
use Rattle.word.specs.Edition.{same}
use Rattle.word.proofs.Editions.{same_self}
use Rattle.rule.specs.declared.Rule.{Rule}
use Rattle.rule.specs.accept.Accept.{rule_grounds}
use Rattle.page.specs.Calls.{add, changed, first_that_applies, ground, grounds, is_blank, open_at, refusal, written}
use Rattle.page.specs.declared.Opening.{Opening}
use Rattle.page.specs.Page.{OpenPage, a_rule, edition_of, new_page, no_page, page, with_entries}
use Rattle.page.proofs.Refusals.{after_accepted}
use Rattle.batch.specs.course.Batch.{Ending, added, batch}
use Rattle.batch.proofs.course.Added.{add_goes, add-stops, open_goes, open_stops}

-- the numbers that a rule is refused with, or for which there is no place left
abbrev pub OfRule : ℕ → Type 0
OfRule k = (3 ≤ k) × (k ≤ 6)

pub data Placed (n : ℕ) (o : Ending) : Type 0 where
  at_length : o.answer.place ≡ n → Placed n o
  at_rule : o.answer.place < n → OfRule o.answer.reply.number → Placed n o

-- the row of 11 does not apply, and one of the rows below does
below_11 : (t a b c d : Bool) → t ≡ true → {k : ℕ}
    → first_that_applies (ground 1 false ∷ ground 11 (not t) ∷ ground 3 a ∷ ground 4 b ∷ ground 5 c ∷ ground 6 d ∷ []) ≡ k → (k ≡ 0 → ⊥) → OfRule k
unfolding first_that_applies
below_11 false a b c d h q z = absurd (false≢true h)
below_11 true true b c d h q z = (omega arith, omega arith)
below_11 true false true c d h q z = (omega arith, omega arith)
below_11 true false false true d h q z = (omega arith, omega arith)
below_11 true false false false true h q z = (omega arith, omega arith)
below_11 true false false false false h q z = absurd (z (sym q))

module _ (e : Edition) (m : ℕ) where
  -- a page of the edition
  abbrev Of : OpenPage → Type 0
  Of o = same e o.opening.edition ≡ true

  of_rule : (o : OpenPage) → Of o → (u : Rule) → (refusal (page o) (add e u) ≡ 0 → ⊥) → OfRule (refusal (page o) (add e u))
  unfolding refusal grounds rule_grounds is_blank edition_of
  of_rule o h u z = below_11 _ _ _ _ _ h refl z

  added_placed : {n : ℕ} (o : OpenPage) → Of o → (i : ℕ) (us : List Rule) → i + length us ≡ n → Placed n (added e (page o) i us m)
  unfolding added written changed
  added_placed o h i [] l = at_length (omega arith)
  added_placed {n} o h i (u ∷ us) l =
      go (ℕ_discrete (refusal (page o) (add e u)) 0) (added_placed next h (i + 1) us (omega arith))
    where
      next : OpenPage
      next = with_entries o (a_rule u ∷ o.entries)

      go : Dec (refusal (page o) (add e u) ≡ 0) → Placed n (added e (page next) (i + 1) us m) → Placed n (added e (page o) i (u ∷ us) m)
      go (yes z) p = rw (add_goes e (page o) i u us m z, after_accepted (page o) (add e u) z) p
      go (no z) p = rw (add-stops e (page o) i u us m z) (at_rule (omega arith) (of_rule o h u z))

pub placed : (g : Opening) (us : List Rule) (m : ℕ) → Placed (length us) (batch g us m)
unfolding written
placed g us m = go (ℕ_discrete (refusal no_page (open_at g)) 0)
  where
    go : Dec (refusal no_page (open_at g) ≡ 0) → Placed (length us) (batch g us m)
    go (yes z) =
        rw (open_goes g us m z, after_accepted no_page (open_at g) z)
        (added_placed g.edition m (new_page g) (same_self g.edition) 0 us (omega arith))
    go (no z) = rw (open_stops g us m z) (at_length refl)
