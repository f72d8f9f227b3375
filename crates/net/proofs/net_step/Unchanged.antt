-- Words change only where a join names them, so that to look at those is to look at all. Assumes nothing.
use mathlib.Core.Path.{◌≡◌, refl, sym, ap₂, subst, ◌∙◌}
use mathlib.Core.Bool.{Bool, true, ◌&&◌, false≢true}
use mathlib.Core.List.{List, [], ◌∷◌}
use Prim.Native.Nat.{ℕ}
use native.Mathlib.Decide.{ℕ_discrete}
use borrow.Author.Tests.{eq-eqb, eqb-true}
use lib.Dec.{eqb}
use lib.ListN.{length, length-set}
use lib.Seq.{ext_get_or, get_or-set_other}
use Rattle.word.proofs.Tests.{both_pass, same_test}
use Rattle.span.specs.declared.interval.Interval.{Interval}
use Rattle.span.specs.declared.Joined.{Joined}
use Rattle.span.specs.interval.Interval.{interval}
use Rattle.net.specs.declared.net_step.Join.{Join}
use Rattle.net.specs.net_step.Named.{third, word_at}
use Rattle.net.specs.net_step.Step.{cut_all, cut_at, same, unchanged}

same_equal : (i j : Interval) → same i j ≡ true → i ≡ j
unfolding same
same_equal i j e =
    let (l, h) = both_pass (eqb i.low j.low) (eqb i.high j.high) e in
    ap₂ interval (eqb-true i.low j.low l) (eqb-true i.high j.high h)

same_self : (i : Interval) → same i i ≡ true
unfolding same
same_self i = rw (eq-eqb i.low i.low refl, eq-eqb i.high i.high refl)

pub unchanged_equal : (is js : List Interval) → unchanged is js ≡ true → is ≡ js
unfolding unchanged
unchanged_equal [] [] e = refl
unchanged_equal [] (j ∷ js) e = absurd (false≢true e)
unchanged_equal (i ∷ is) [] e = absurd (false≢true e)
unchanged_equal (i ∷ is) (j ∷ js) e =
    let (a, b) = both_pass (same i j) (unchanged is js) e in ap₂ (λ (k : Interval) (ks : List Interval). k ∷ ks) (same_equal i j a) (unchanged_equal is js b)

pub unchanged_self : (is : List Interval) → unchanged is is ≡ true
unfolding unchanged
unchanged_self [] = refl
unchanged_self (i ∷ is) = rw (same_self i) (unchanged_self is)

-- a place that is not cut is as it was
pub elsewhere : (k : ℕ) (i : Interval) (ws : List Interval) (p : ℕ) → (p ≡ k → ⊥) → word_at (cut_at k i ws) p ≡ word_at ws p
unfolding cut_at
elsewhere k i ws p n = get_or-set_other ws k p _ (interval 0 0) n

module _ (j : Join) (r : Joined) (ws : List Interval) where
  -- a place that the join does not name is as it was
  pub not_named : (p : ℕ) → (p ≡ j.h → ⊥) → (p ≡ j.x → ⊥) → (p ≡ third j → ⊥) → word_at (cut_all j r ws) p ≡ word_at ws p
  unfolding cut_all
  not_named p h x y =
      elsewhere (third j) r.y _ p y ∙ elsewhere j.x r.x _ p x ∙ elsewhere j.h r.h ws p h

  pub as_long : length (cut_all j r ws) ≡ length ws
  unfolding cut_all cut_at
  as_long = simp length-set

  -- what is tested of the places that a join names is so of all
  pub tested :
      let now = cut_all j r ws in
      (same (word_at ws j.h) (word_at now j.h) && (same (word_at ws j.x) (word_at now j.x) && same (word_at ws (third j)) (word_at now (third j))))
      ≡ unchanged ws now
  tested = same_test _ _ to from
    where
      at : ℕ → Bool
      at k = same (word_at ws k) (word_at (cut_all j r ws) k)

      to : (at j.h && (at j.x && at (third j))) ≡ true → unchanged ws (cut_all j r ws) ≡ true
      to e =
          let (h, t) = both_pass (at j.h) (at j.x && at (third j)) e in
          let (x, y) = both_pass (at j.x) (at (third j)) t in
          let d = ext_get_or (interval 0 0) ws (cut_all j r ws) (sym as_long) (λ p b. place h x y p) in
          subst (λ (l : List Interval). unchanged ws l ≡ true) d (unchanged_self ws)
        where
          place : at j.h ≡ true → at j.x ≡ true → at (third j) ≡ true → (p : ℕ) → word_at ws p ≡ word_at (cut_all j r ws) p
          place h x y p = go (ℕ_discrete p j.h) (ℕ_discrete p j.x) (ℕ_discrete p (third j))
            where
              stays : (k : ℕ) → p ≡ k → at k ≡ true → word_at ws p ≡ word_at (cut_all j r ws) p
              stays k e t = subst (λ (q : ℕ). word_at ws q ≡ word_at (cut_all j r ws) q) (sym e) (same_equal _ _ t)

              go : Dec (p ≡ j.h) → Dec (p ≡ j.x) → Dec (p ≡ third j) → word_at ws p ≡ word_at (cut_all j r ws) p
              go (yes e) b c = stays j.h e h
              go (no a) (yes e) c = stays j.x e x
              go (no a) (no b) (yes e) = stays (third j) e y
              go (no a) (no b) (no c) = sym (not_named p a b c)

      from : unchanged ws (cut_all j r ws) ≡ true → (at j.h && (at j.x && at (third j))) ≡ true
      from e = rw (here j.h, here j.x, here (third j))
        where
          here : (k : ℕ) → at k ≡ true
          here k =
              subst (λ (l : List Interval). same (word_at ws k) (word_at l k) ≡ true) (unchanged_equal ws (cut_all j r ws) e) (same_self (word_at ws k))
