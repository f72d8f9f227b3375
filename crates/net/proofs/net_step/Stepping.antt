-- A step of the code comes to a step of the definition. Assumes nothing.
use mathlib.Core.Path.{◌≡◌, refl, sym, ap, ◌∙◌}
use mathlib.Core.Bool.{Bool, true, false, ◌&&◌, ◌||◌}
use mathlib.Core.List.{List}
use Prim.Native.Nat.{ℕ}
use Rattle.span.specs.declared.interval.Interval.{Interval}
use Rattle.span.specs.declared.Joined.{Joined}
use Rattle.span.specs.Join.{any_hollow, joined}
use Rattle.net.specs.declared.net_step.Join.{Join}
use Rattle.net.specs.net_step.Named.{third, word_at}
use Rattle.net.specs.net_step.Step.{after, cut_all, cut_at, emptied, left, no_word, results, same, stepped, unchanged}
use Rattle.net.proofs.net_step.Unchanged.{tested, unchanged_self}

-- y is the place that the code finds for the third word, r what it was answered, and l, k and n the words after each cut
module _ (w : ℕ) (j : Join) (ws : List Interval) {y : ℕ} {r : Joined} {l k n : List Interval} (is_y : y ≡ third j)
    (is_r : r ≡ joined w j.op (word_at ws j.h) (word_at ws j.x) (word_at ws y)) (cut_h : l ≡ cut_at j.h r.h ws)
    (cut_x : k ≡ cut_at j.x r.x l) (cut_y : n ≡ cut_at y r.y k) where
  answered : r ≡ results w j ws
  unfolding results
  answered = is_r ∙ ap (λ (p : ℕ). joined w j.op (word_at ws j.h) (word_at ws j.x) (word_at ws p)) is_y

  all_cut : n ≡ after w j ws
  unfolding after cut_all
  all_cut = cut_y ∙ rw (cut_x, cut_h, answered, is_y) refl

  module _ {e : Bool} (is_e : e ≡ (r.empty || any_hollow (word_at n j.h) (word_at n j.x) (word_at n y))) where
    found : emptied w j ws ≡ e
    unfolding emptied no_word
    found = sym (is_e ∙ rw (is_y, all_cut, answered) refl)

    pub ends_empty : e ≡ true → record { empty = true; quiet = true; words = ws } ≡ stepped w j ws
    unfolding stepped left
    ends_empty t = rw (found, t, unchanged_self ws) refl

    module _ {q : Bool}
        (is_q : q ≡ (same (word_at ws j.h) (word_at n j.h) && (same (word_at ws j.x) (word_at n j.x) && same (word_at ws y) (word_at n y)))) where
      quiet : q ≡ unchanged ws (after w j ws)
      unfolding after
      quiet = is_q ∙ rw (is_y, all_cut) (tested j (results w j ws) ws)

      pub comes_to : e ≡ false → record { empty = false; quiet = q; words = n } ≡ stepped w j ws
      unfolding stepped left
      comes_to t = rw (found, t, quiet, all_cut) refl
