-- What cuts do at each place: a word stays, or is cut. So no interval grows, and a place that no join names stays. Assumes nothing.
use mathlib.Core.Path.{◌≡◌, ap, subst, subst⁻¹, ◌∙◌}
use mathlib.Core.Bool.{Bool, true, false, cond}
use mathlib.Core.List.{List}
use Prim.Native.Nat.{ℕ, ◌<◌}
use native.Mathlib.Decide.{dec_lt, ℕ_discrete}
use native.Mathlib.Omega.{arith}
use lib.ListN.{length}
use lib.Seq.{get_or-set_same, set_out}
use Rattle.span.specs.declared.interval.Interval.{Interval}
use Rattle.span.specs.declared.Joined.{Joined}
use Rattle.span.specs.Demand.{Inside}
use Rattle.span.specs.interval.Interval.{cut, interval}
use Rattle.net.specs.declared.net_step.Join.{Join}
use Rattle.net.specs.net_step.Named.{third, word_at}
use Rattle.net.specs.net_step.Step.{after, cut_all, cut_at, emptied, left, results}
use Rattle.net.proofs.net_step.Unchanged.{elsewhere}

pub stays : (i : Interval) → Inside i i
stays i = record { low = omega arith; high = omega arith }

pub cut_inside : {o : Interval} (by i : Interval) → Inside i o → Inside (cut i by) o
unfolding cut
cut_inside by i h = record { low = omega arith; high = omega arith }

-- a cut keeps what is so at p, where a cut by that interval keeps it at p
module _ (P : Interval → Type 0) (p : ℕ) where
  pub kept_at : (k : ℕ) (by : Interval) (ws : List Interval) → (p ≡ k → (i : Interval) → P i → P (cut i by)) → P (word_at ws p) → P (word_at (cut_at k by ws) p)
  unfolding cut_at
  kept_at k by ws keeps h = go (ℕ_discrete p k) (dec_lt k (length ws))
    where
      go : Dec (p ≡ k) → Dec (k < length ws) → P (word_at (cut_at k by ws) p)
      go (no n) b = subst⁻¹ P (elsewhere k by ws p n) h
      go (yes e) (yes l) =
          subst⁻¹ P (ap (word_at (cut_at k by ws)) e ∙ get_or-set_same ws k (cut (word_at ws k) by) (interval 0 0) l)
          (keeps e (word_at ws k) (subst P (ap (word_at ws) e) h))
      go (yes e) (no l) = subst⁻¹ P (ap (λ (vs : List Interval). word_at vs p) (set_out ws k (cut (word_at ws k) by) (omega arith))) h

  pub kept_all : (j : Join) (r : Joined) (ws : List Interval) → (p ≡ j.h → (i : Interval) → P i → P (cut i r.h))
      → (p ≡ j.x → (i : Interval) → P i → P (cut i r.x)) → (p ≡ third j → (i : Interval) → P i → P (cut i r.y)) → P (word_at ws p)
      → P (word_at (cut_all j r ws) p)
  unfolding cut_all
  kept_all j r ws h x y s = kept_at (third j) r.y _ y (kept_at j.x r.x _ x (kept_at j.h r.h ws h s))

-- what is so of the words before a step and after all its cuts is so of those that it leaves
pub either_left : (w : ℕ) (j : Join) (ws : List Interval) (P : List Interval → Type 0) → P ws → P (after w j ws) → P (left w j ws)
unfolding left
either_left w j ws P h a = go (emptied w j ws)
  where
    go : (b : Bool) → P (cond b ws (after w j ws))
    go true = h
    go false = a

-- "no interval ever grows", of the cuts of a step
pub shrinks : (w : ℕ) (j : Join) (ws : List Interval) (p : ℕ) → Inside (word_at (after w j ws) p) (word_at ws p)
unfolding after
shrinks w j ws p =
    let r = results w j ws in
    kept_all (λ i. Inside i (word_at ws p)) p j r ws (λ e. cut_inside r.h) (λ e. cut_inside r.x) (λ e. cut_inside r.y) (stays (word_at ws p))
