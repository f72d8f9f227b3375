-- What a step leaves of each word: the words of its old interval that are among all the results for it. A cut takes what is not in both,
-- and the later cuts only take away. Assumes nothing.
use mathlib.Core.Path.{◌≡◌, refl, sym, ap, subst, subst⁻¹, ◌∙◌}
use mathlib.Core.Bool.{false}
use mathlib.Core.List.{List}
use Prim.Native.Nat.{ℕ, ◌<◌}
use native.Mathlib.Omega.{arith}
use lib.ListN.{length, length-set}
use lib.Seq.{get_or-set_same}
use Rattle.span.specs.declared.interval.Interval.{Interval}
use Rattle.span.specs.declared.Joined.{Joined}
use Rattle.span.specs.declared.interval.Op.{Op}
use Rattle.span.specs.declared.interval.Op.TheVariants.{And, Not, Or, Xor}
use Rattle.span.specs.Demand.{Inside}
use Rattle.span.specs.interval.Interval.{In, cut, interval}
use Rattle.span.specs.Join.{joined}
use Rattle.span.proofs.interval.Intervals.{in_cut}
use Rattle.net.specs.declared.net_step.Join.{Join}
use Rattle.net.specs.Demand.{InResults}
use Rattle.net.specs.net_step.Named.{place_of, third, word_at}
use Rattle.net.specs.net_step.Step.{after, cut_all, cut_at, emptied, left, results}
use Rattle.net.proofs.Alike.{no_not}
use Rattle.net.proofs.Cuts.{cut_inside, kept_all, kept_at, shrinks}
use Rattle.net.proofs.Kept.{y_back}

inside_in : {i o : Interval} {a : ℕ} → Inside i o → In i a → In o a
inside_in h m = record { low = omega arith; high = omega arith }

cut_by : (i by : Interval) → Inside (cut i by) by
unfolding cut
cut_by i by = record { low = omega arith; high = omega arith }

pub third_y : (op : Op) (x y : ℕ) → (op ≡ Not → ⊥) → place_of op x y ≡ y
unfolding place_of
third_y Not x y n = absurd (n refl)
third_y And x y n = refl
third_y Or x y n = refl
third_y Xor x y n = refl

module _ (p : ℕ) where
  -- the word at a place that is cut lies in what it is cut by
  cut_there : (k : ℕ) (by : Interval) (ws : List Interval) → p ≡ k → p < length ws → Inside (word_at (cut_at k by ws) p) by
  unfolding cut_at
  cut_there k by ws e l =
      subst⁻¹ (λ (i : Interval). Inside i by) (ap (word_at (cut_at k by ws)) e ∙ get_or-set_same ws k _ (interval 0 0) (omega (arith, e, l)))
      (cut_by (word_at ws k) by)

  still_there : {o : Interval} (k : ℕ) (by : Interval) (ws : List Interval) → Inside (word_at ws p) o → Inside (word_at (cut_at k by ws) p) o
  still_there {o} k by ws h = kept_at (λ i. Inside i o) p k by ws (λ e. cut_inside by) h

  still_placed : (k : ℕ) (by : Interval) (ws : List Interval) → p < length ws → p < length (cut_at k by ws)
  unfolding cut_at
  still_placed k by ws l = omega (arith, l, length-set ws k (cut (word_at ws k) by))

  module _ (j : Join) (r : Joined) (ws : List Interval) (l : p < length ws) where
    by_h : p ≡ j.h → Inside (word_at (cut_all j r ws) p) r.h
    unfolding cut_all
    by_h e = still_there (third j) r.y _ (still_there j.x r.x _ (cut_there j.h r.h ws e l))

    by_x : p ≡ j.x → Inside (word_at (cut_all j r ws) p) r.x
    unfolding cut_all
    by_x e = still_there (third j) r.y _ (cut_there j.x r.x _ e (still_placed j.h r.h ws l))

    by_y : p ≡ third j → Inside (word_at (cut_all j r ws) p) r.y
    unfolding cut_all
    by_y e = cut_there (third j) r.y _ e (still_placed j.x r.x _ (still_placed j.h r.h ws l))

  -- a NOT gives its third word back as it came
  among_third : {a : ℕ} (w : ℕ) (op : Op) (h i : Interval) (x y : ℕ) (ws : List Interval) → In (word_at ws p) a
      → ((op ≡ Not → ⊥) → p ≡ y → In (joined w op h i (word_at ws (place_of op x y))).y a) → p ≡ place_of op x y
      → In (joined w op h i (word_at ws (place_of op x y))).y a
  unfolding place_of
  among_third {a} w Not h i x y ws m f e =
      subst⁻¹ (λ (o : Interval). In o a) (y_back w h i (word_at ws x)) (subst (λ (q : ℕ). In (word_at ws q) a) e m)
  among_third w And h i x y ws m f e = f (no_not refl) e
  among_third w Or h i x y ws m f e = f (no_not refl) e
  among_third w Xor h i x y ws m f e = f (no_not refl) e

  -- all cuts of a step leave at p the words of its old interval that are among all the results for it, and no others
  module _ (w : ℕ) (j : Join) (ws : List Interval) {a : ℕ} where
    pub after_among : p < length ws → In (word_at (after w j ws) p) a → In (word_at ws p) a × InResults j (results w j ws) p a
    unfolding after third
    after_among l m = (
      inside_in (shrinks w j ws p) m,
      record {
        h = λ e. inside_in (by_h j r ws l e) m;
        x = λ e. inside_in (by_x j r ws l e) m;
        y = λ n e. inside_in (by_y j r ws l (e ∙ sym (third_y j.op j.x j.y n))) m;
      },
    )
      where
        r : Joined
        r = results w j ws

    pub among_after : In (word_at ws p) a → InResults j (results w j ws) p a → In (word_at (after w j ws) p) a
    unfolding after results third
    among_after m i =
        kept_all (λ o. In o a) p j (results w j ws) ws (λ e o n. in_cut n (i.h e)) (λ e o n. in_cut n (i.x e))
        (λ e o n. in_cut n (among_third w j.op _ _ j.x j.y ws m i.y e)) m

    -- "A join that names a word twice cuts it by all its results", where no cut is empty
    module _ (f : emptied w j ws ≡ false) where
      pub left_among : p < length ws → In (word_at (left w j ws) p) a → In (word_at ws p) a × InResults j (results w j ws) p a
      unfolding left
      left_among l = rw f (after_among l)

      pub among_left : In (word_at ws p) a → InResults j (results w j ws) p a → In (word_at (left w j ws) p) a
      unfolding left
      among_left m i = rw f (among_after m i)
