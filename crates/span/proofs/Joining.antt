-- What a join asks before it cuts, and its three ways out. Assumes nothing.
use mathlib.Core.Path.{◌≡◌, refl, sym, ap, ◌∙◌}
use mathlib.Core.Bool.{Bool, true, false, ◌&&◌, ◌||◌, cond}
use Prim.Native.Nat.{ℕ, ◌≤◌}
use native.Mathlib.Omega.{arith}
use borrow.Author.Tests.{ne_eqb}
use Rattle.word.specs.Word.{IsWidth, top}
use Rattle.word.proofs.Tests.{both_fail, both_pass}
use Rattle.span.specs.declared.interval.Interval.{Interval}
use Rattle.span.specs.declared.Joined.{Joined}
use Rattle.span.specs.declared.interval.Op.{Op}
use Rattle.span.specs.declared.interval.Op.TheVariants.{And, Not, Or, Xor}
use Rattle.span.specs.declared.refusal.Refusal.{Refusal}
use Rattle.span.specs.declared.refusal.Refusal.TheVariants.{Bound, Order, Width}
use Rattle.span.specs.refusal.Refusal.{number_of}
use Rattle.span.specs.interval.Interval.{Words, hollow, within}
use Rattle.span.specs.interval.Op.{inverted, second}
use Rattle.span.specs.Join.{all_cut, all_within, any_hollow, as_given, emptied, is_width, joined, new_h, new_x, new_y, refusal, refused}
use Rattle.span.proofs.interval.Intervals.{is_words}
use Rattle.span.proofs.Widths.{width_passes}

-- what is not refused
pub record Accepted (w : ℕ) (h x y : Interval) : Type 0 where
  pub width : IsWidth w
  pub h_words : Words w h
  pub x_words : Words w x
  pub y_words : Words w y

rows : (a b c : Bool) → ◌≡◌ {A = ℕ} (cond a (cond b (cond c 15 0) 5) 2) 0 → (a ≡ true) × ((b ≡ true) × (c ≡ false))
rows true true false e = (refl, (refl, refl))
rows true true true e = absurd (omega arith)
rows true false c e = absurd (omega arith)
rows false b c e = absurd (omega arith)

-- where y is cut there is a y
pub has_y : (op : Op) (i : Interval) → 2 ≤ inverted op → second op i ≡ i
unfolding inverted second
has_y Not i e = absurd (omega arith)
has_y And i e = refl
has_y Or i e = refl
has_y Xor i e = refl

pub accepted : {w : ℕ} {h x y : Interval} → refused w h x y ≡ 0 → Accepted w h x y
unfolding refused all_within any_hollow
accepted {w} {h} {x} {y} e =
    let (a, (b, c)) = rows (is_width w) (all_within (top w) h x y) (any_hollow h x y) e in
    let (bh, bxy) = both_pass (within (top w) h) (within (top w) x && within (top w) y) b in
    let (bx, by) = both_pass (within (top w) x) (within (top w) y) bxy in
    let (ch, cxy) = both_fail (hollow h) (hollow x || hollow y) c in
    let (cx, cy) = both_fail (hollow x) (hollow y) cxy in
    record {
      width = width_passes a;
      h_words = is_words w h bh ch;
      x_words = is_words w x bx cx;
      y_words = is_words w y by cy;
    }

-- a refusal has a number
some_number : (r : Refusal) → number_of r ≡ 0 → ⊥
unfolding number_of
some_number Width e = absurd (omega arith)
some_number Bound e = absurd (omega arith)
some_number Order e = absurd (omega arith)

module _ (w : ℕ) (op : Op) (h x y : Interval) {z : Interval} (is_z : z ≡ second op y) where
  number : {n : ℕ} → n ≡ refused w h x z → refusal w op h x y ≡ n
  unfolding refusal
  number e = ap (refused w h x) (sym is_z) ∙ sym e

  pub out_refused : (r : Refusal) {n : ℕ} → n ≡ number_of r → number_of r ≡ refused w h x z → {a : Joined} → a ≡ as_given n false h x y → a ≡ joined w op h x y
  unfolding joined
  out_refused r is_n e d = d ∙ rw (is_n, number e, ne_eqb (number_of r) 0 (some_number r)) refl

  -- the width as the code has it, where nothing is refused
  module _ {b : ℕ} (is_b : b ≡ w) (zero : 0 ≡ refused w h x z) where
    pub may_cut : Accepted b h x (second op y)
    may_cut = rw is_b (accepted (ap (refused w h x) (sym is_z) ∙ sym zero))

    module _ {h' x' y' z' : Interval} {e : Bool} (is_h : h' ≡ new_h b op h x y) (is_x : x' ≡ new_x b op h x y) (is_y : y' ≡ new_y b op h x y)
        (is_z' : z' ≡ second op y') (is_e : e ≡ any_hollow h' x' z') where
      tested : emptied w op h x y ≡ e
      unfolding emptied
      tested = sym (is_e ∙ rw (is_z', is_h, is_x, is_y, is_b) refl)

      pub out_empty : e ≡ true → {r : Joined} → r ≡ as_given 0 true h x y → r ≡ joined w op h x y
      unfolding joined
      out_empty t d = rw (number zero, tested, t) d

      pub out_cut : e ≡ false → record { number = 0; empty = false; h = h'; x = x'; y = y' } ≡ joined w op h x y
      unfolding joined all_cut
      out_cut t = rw (number zero, tested, t) (rw (is_h, is_x, is_y, is_b) refl)
