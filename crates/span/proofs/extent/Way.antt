-- The way down the bits: with k bits left, the smallest result over x and y is what has been found so far and the smallest
-- result over what is left of them. Assumes nothing.
use mathlib.Core.Path.{◌≡◌, sym, ◌∙◌}
use Prim.Native.Nat.{ℕ, ◌+◌, ◌-◌, ◌^◌, ◌≤◌, ◌<◌}
use native.Mathlib.Nat.{add_assoc, zero-add, add-zero}
use native.Mathlib.Omega.{arith}
use lib.Pow.{pow_mono}
use Rattle.word.specs.Word.{half, top}
use Rattle.word.proofs.Widths.{halves, top-suc}
use Rattle.span.specs.declared.interval.Interval.{Interval}
use Rattle.span.specs.interval.Interval.{Least, Words}
use Rattle.span.specs.extent.Span.{smallest}
use Rattle.span.specs.steps.route.Step.{Opens}
use Rattle.span.specs.steps.Bitwise.{IsBitwise}
use Rattle.span.proofs.extent.Searched.{smallest_is}
use Rattle.span.proofs.steps.Settled.{nothing_left}

-- k bits are left, p and q of the intervals, and n is found
pub record Way (f : ℕ → ℕ → ℕ) (w : ℕ) (x y : Interval) (k : ℕ) (p q : Interval) (n : ℕ) : Type 0 where
  pub left : k ≤ w
  pub room : n + top k ≤ top w
  pub p_words : Words k p
  pub q_words : Words k q
  pub carries : (v : ℕ) → Least f p q v → Least f x y (n + v)

module _ {f : ℕ → ℕ → ℕ} {w : ℕ} {x y : Interval} where
  pub way_start : Words w x × Words w y → Way f w x y w x y 0
  way_start m =
      record { left = omega arith; room = omega arith; p_words = m.0; q_words = m.1; carries = λ v l. rw (zero-add v) l }

  pub way_on : {k n b : ℕ} {p q r s : Interval} → 1 ≤ k → Way f w x y k p q n → Opens k f p q b r s → Way f w x y (k - 1) r s (n + b)
  unfolding half
  way_on {k} {n} {b} h way o =
      record {
        left = omega (arith, way.left);
        room = omega (arith, way.room, o.small, halves k h, top-suc (k - 1));
        p_words = o.x_words;
        q_words = o.y_words;
        carries = λ v l. rw (add_assoc n b v) (way.carries (b + v) (o.carries v l));
      }

  module _ (law : IsBitwise f) (words : Words w x × Words w y) where
    word : {v : ℕ} → Least f x y v → v < 2 ^ w
    word m =
        let t = top-suc w in
        let s = law.bound w m.a m.b (omega (arith, m.in_x.high, words.0.top)) (omega (arith, m.in_y.high, words.1.top)) in
        omega (arith, m.is)

    pub fits : w ≤ 64 → {v : ℕ} → Least f x y v → v < 2 ^ 64
    fits h m = omega (arith, word m, pow_mono {i = w} {j = 64} h)

    pub is_smallest : {v : ℕ} → Least f x y v → v ≡ smallest w f x y
    is_smallest {v} m = sym (smallest_is f x y w v m (word m))

    pub way_end : {n : ℕ} {p q : Interval} → Way f w x y 0 p q n → n ≡ smallest w f x y
    way_end {n} way =
        sym (add-zero n) ∙ is_smallest (way.carries 0 (nothing_left law way.p_words way.q_words))
