-- A band that is laid turns at most twice, and past the end of a section there is one turn less at least; so n bands have at most
-- 2 n + 1 sections. Assumes nothing.
use mathlib.Core.Path.{◌≡◌, refl, sym, ap, ◌∙◌, subst}
use mathlib.Core.Bool.{Bool, true, false, true≢false, not, ◌&&◌, cond}
use mathlib.Core.Logic.{◌⊎◌, inl, inr, ⊎_elim}
use mathlib.Core.List.{List, [], ◌∷◌}
use Prim.Native.Nat.{ℕ, zero, suc, ◌+◌, ◌*◌, ◌-◌, ◌≤◌, ◌<◌}
use native.Mathlib.Decide.{ℕ_discrete}
use native.Mathlib.Omega.{arith}
use borrow.Author.Tests.{eq-eqb, ne_eqb, not-false, not-true}
use lib.Dec.{eqb}
use lib.ListN.{length, take}
use lib.Seq.{length-take-le}
use Rattle.word.specs.Search.{count}
use Rattle.word.proofs.Climb.{all_miss, climb_is}
use Rattle.word.proofs.Count.{count_later, count_past}
use Rattle.word.proofs.Search.{count_two}
use Rattle.word.proofs.Tests.{both_pass}
use Rattle.rule.specs.declared.band.Band.{Band}
use Rattle.rule.specs.band.route.Band.{AllLaid, Laid, all_hold, holds, other_side}
use Rattle.rule.proofs.band.Law.{other_holds}
use Rattle.rule.proofs.band.Runs.{edge, run_ends}
use Rattle.search.specs.rows.route.Bands.{Lie}
use Rattle.search.specs.declared.section.Section.{Section}
use Rattle.search.specs.section.route.Section.{section_at}
use Rattle.search.specs.section.route.Sides.{fails, first_failing, some_fails}
use Rattle.search.specs.section.route.Turns.{most_sections, section_ends, turns, turns_from}
use Rattle.search.proofs.section.Alike.{fail_section, first_fails, held_section, section_alike}

-- where a band turns, its run ends or that of its other side
turn_edge : (b : Band) (t x : ℕ) → Laid t b → x < t → turns b x ≡ true → (x ≡ edge b) ⊎ (x ≡ edge (other_side b))
unfolding turns fails
turn_edge b t x laid below e = go (holds b x) refl
  where
    other : Laid t (other_side b)
    other = record { from_word = laid.from_word; to_word = laid.to_word; no_seam = laid.no_seam }

    go : (v : Bool) → holds b x ≡ v → (x ≡ edge b) ⊎ (x ≡ edge (other_side b))
    go true d =
        let next : holds b (suc x) ≡ false = not-true _ (rw (d, turns) at e) in
        inr (run_ends (other_side b) t x other below (other_holds b x ∙ ap not d) (other_holds b (suc x) ∙ ap not next))
    go false d = inl (run_ends b t x laid below d (rw (d, turns) at e))

two_turns : (b : Band) (t p : ℕ) → Laid t b → count (turns b) (t - p) p ≤ 2
two_turns b t p laid =
    count_two (turns b) (t - p) p (edge b) (edge (other_side b)) (λ x l h e. turn_edge b t x laid (omega arith) e)

turns_few : (t : ℕ) (bs : List Band) (p : ℕ) → AllLaid t bs → turns_from t bs p ≤ 2 * length bs
unfolding turns_from AllLaid
turns_few t [] p l = omega arith
turns_few t (b ∷ bs) p l = omega (arith, two_turns b t p l.0, turns_few t bs p l.1)

module _ (t p q : ℕ) (order : p ≤ q) (below : q < t) where
  later : (b : Band) → count (turns b) (t - suc q) (suc q) ≤ count (turns b) (t - p) p
  later b = count_later (turns b) (t - p) (t - suc q) p (suc q) (omega arith) (omega arith)

  past : (b : Band) → turns b q ≡ true → count (turns b) (t - suc q) (suc q) < count (turns b) (t - p) p
  past b e = count_past (turns b) (t - p) (t - suc q) p q order (omega arith) e

  turns_later : (bs : List Band) → turns_from t bs (suc q) ≤ turns_from t bs p
  unfolding turns_from
  turns_later [] = omega arith
  turns_later (b ∷ bs) = omega (arith, later b, turns_later bs)

  abbrev Fewer : List Band → Type 0
  Fewer bs = turns_from t bs (suc q) < turns_from t bs p

  here : (b : Band) (bs : List Band) → turns b q ≡ true → Fewer (b ∷ bs)
  unfolding turns_from
  here b bs e = omega (arith, past b e, turns_later bs)

  there : (b : Band) (bs : List Band) → Fewer bs → Fewer (b ∷ bs)
  unfolding turns_from
  there b bs h = omega (arith, later b, h)

  -- all bands hold q, and one fails the next word
  stops : (bs : List Band) → all_hold bs q ≡ true → all_hold bs (suc q) ≡ false → Fewer bs
  unfolding all_hold turns
  stops [] e d = absurd (true≢false d)
  stops (b ∷ bs) e d = go (holds b (suc q)) refl (stops bs)
    where
      both : (holds b q ≡ true) × (all_hold bs q ≡ true)
      both = both_pass (holds b q) (all_hold bs q) e

      go : (v : Bool) → holds b (suc q) ≡ v → (all_hold bs q ≡ true → all_hold bs (suc q) ≡ false → Fewer bs) → Fewer (b ∷ bs)
      go false n rest = here b bs (rw (both.0, turns) (ap not n))
      go true n rest = there b bs (rest both.1 (sym (ap (λ (v : Bool). v && all_hold bs (suc q)) n) ∙ d))

  -- the first band that fails p fails q too, and holds the next word
  starts : (bs : List Band) → all_hold bs p ≡ false → holds (first_failing bs p) q ≡ false → holds (first_failing bs p) (suc q) ≡ true → Fewer bs
  unfolding all_hold first_failing turns
  starts [] e d n = absurd (true≢false e)
  starts (b ∷ bs) e d n = go (holds b p) refl (starts bs)
    where
      go : (v : Bool) → holds b p ≡ v
          → (all_hold bs p ≡ false → holds (first_failing bs p) q ≡ false → holds (first_failing bs p) (suc q) ≡ true → Fewer bs) → Fewer (b ∷ bs)
      go true c rest =
          there b bs (rest (sym (ap (λ (v : Bool). v && all_hold bs p) c) ∙ e) (rw (c, first_failing) at d) (rw (c, first_failing) at n))
      go false c rest = here b bs (rw (rw (c, first_failing) at d, turns) (rw (c, first_failing) at n))

-- past a section that ends below the top word the bands turn less often
section_fewer : (t : ℕ) (bs : List Band) (p : ℕ) → p ≤ t → ((section_at t bs p).to ≡ t → ⊥) → turns_from t bs (suc (section_at t bs p).to) < turns_from t bs p
unfolding some_fails
section_fewer t bs p word = go (all_hold bs p) refl
  where
    go : (v : Bool) → all_hold bs p ≡ v → ((section_at t bs p).to ≡ t → ⊥) → turns_from t bs (suc (section_at t bs p).to) < turns_from t bs p
    go true e =
        let c = climb_is (some_fails bs) (t - p) p t (omega arith) in
        rw (held_section t bs p word e)
        (λ d. ⊎_elim (λ s. absurd (d s))
        (λ s. stops t p _ c.order (omega (arith, c.bound)) bs (not-false _ (all_miss (some_fails bs) c (ap not e) _ c.order (omega arith))) (not-true _ s)) c.stop)
    go false e =
        let c = climb_is (holds (first_failing bs p)) (t - p) p t (omega arith) in
        rw (fail_section t bs p word e)
        (λ d. ⊎_elim (λ s. absurd (d s))
        (λ s. starts t p _ c.order (omega (arith, c.bound)) bs e (all_miss (holds (first_failing bs p)) c (first_fails bs p e) _ c.order (omega arith)) s) c.stop)

-- the same of bands that lie in rows, and of a section that was found
pub few_turns : {t n : ℕ} {bands : List Band} → Lie t n bands → (p : ℕ) → 0 + turns_from t (take n bands) p ≤ 2 * n
few_turns {t} {n} {bands} l p =
    omega (arith, turns_few t (take n bands) p l.laid, length-take-le n bands (omega (arith, l.places, l.count)))

pub fewer_turns : {t : ℕ} (bs : List Band) {p : ℕ} {s : Section} → p ≤ t → s ≡ section_at t bs p → (s.to ≡ t → ⊥)
    → turns_from t bs (suc s.to) < turns_from t bs p
fewer_turns {t} bs {p} word e =
    subst (λ (s : Section). (s.to ≡ t → ⊥) → turns_from t bs (suc s.to) < turns_from t bs p) (sym e) (section_fewer t bs p word)

-- so however far one goes there are no more sections than one more than the turns left
ends_few : (t : ℕ) (bs : List Band) (k p : ℕ) → p ≤ t → length (section_ends t bs k p) ≤ suc (turns_from t bs p)
unfolding section_ends
ends_few t bs zero p h = omega arith
ends_few t bs (suc k) p h =
    go (ℕ_discrete (section_at t bs p).to t) (λ d. ends_few t bs k (suc (section_at t bs p).to) (omega (arith, d, (section_alike t bs p h).bound)))
  where
    q : ℕ
    q = (section_at t bs p).to

    go : Dec (q ≡ t) → ((q ≡ t → ⊥) → length (section_ends t bs k (suc q)) ≤ suc (turns_from t bs (suc q)))
        → length (q ∷ cond (eqb q t) [] (section_ends t bs k (suc q))) ≤ suc (turns_from t bs p)
    go (yes e) later = rw (eq-eqb q t e) (omega arith)
    go (no d) later = rw (ne_eqb q t d) (omega (arith, later d, section_fewer t bs p h d))

-- never word by word: whatever the width, n bands have at most 2 n + 1 sections
pub few_sections : {t n : ℕ} {bands : List Band} → Lie t n bands → (k p : ℕ) → p ≤ t → length (section_ends t (take n bands) k p) ≤ most_sections n
few_sections {t} {n} {bands} l k p h = omega (arith, ends_few t (take n bands) k p h, few_turns l p)
