-- Where the smallest result is at once clear: the half itself lies in an interval that is across it. Assumes nothing.
use mathlib.Core.Path.{◌≡◌, ap, ap₂, ◌∙◌}
use Prim.Native.Nat.{ℕ, ◌+◌, ◌-◌, ◌*◌, ◌≤◌, ◌<◌, zero-le}
use native.Mathlib.Omega.{arith}
use lib.Arith.{lt-one}
use lib.Bits.{and_comm, and_le_l, and_shifted, bit_and, bit_or, bit_xor, or_add_and, or_block, or_comm, xor_self}
use lib.Pow.{pow_pos}
use Rattle.word.specs.Word.{half}
use Rattle.word.proofs.Widths.{halves, top-suc}
use Rattle.span.specs.declared.interval.Interval.{Interval}
use Rattle.span.specs.interval.Interval.{In, Least, Words}
use Rattle.span.specs.steps.Bitwise.{IsBitwise}

swapped : {f : ℕ → ℕ → ℕ} {x y : Interval} {v : ℕ} → ((a b : ℕ) → f a b ≡ f b a) → Least f y x v → Least f x y v
swapped comm m =
    record {
      a = m.b;
      b = m.a;
      in_x = m.in_y;
      in_y = m.in_x;
      is = comm m.b m.a ∙ m.is;
      least = λ c d p q. omega (arith, comm c d, m.least d c q p);
    }

module _ (w : ℕ) {x y : Interval} where
  pub and_zero : x.low ≤ x.high → x.low < half w → In y (half w) → Least bit_and x y 0
  unfolding half
  and_zero o l m =
      record {
        a = x.low;
        b = half w;
        in_x = record { low = omega arith; high = o };
        in_y = m;
        is = and_comm x.low (half w) ∙ ap (λ (n : ℕ). bit_and n x.low) one ∙ and_shifted 1 (w - 1) x.low l;
        least = λ c d p q. zero-le;
      }
    where
      one : half w ≡ 1 * half w
      one = omega arith

  pub xor_zero : In x (half w) → In y (half w) → Least bit_xor x y 0
  xor_zero m n = record { a = half w; b = half w; in_x = m; in_y = n; is = xor_self (half w); least = λ c d p q. zero-le }

  pub or_low : 1 ≤ w → In x (half w) → Words w y → half w ≤ y.low → Least bit_or x y y.low
  unfolding half
  or_low l m n h =
      record {
        a = half w;
        b = y.low;
        in_x = m;
        in_y = record { low = omega arith; high = n.order };
        is = ap₂ bit_or one rest ∙ or_block (w - 1) 1 1 0 (y.low - half w) (pow_pos (w - 1)) (omega (arith, n.order, n.top, halves w l)) ∙ omega arith;
        least = λ c d p q. omega (arith, q.low, or_add_and c d, and_le_l c d);
      }
    where
      one : half w ≡ 1 * half w + 0
      one = omega arith

      rest : y.low ≡ 1 * half w + (y.low - half w)
      rest = omega arith

-- the same with x and y in each other's place
pub and_zero_y : (w : ℕ) {x y : Interval} → y.low ≤ y.high → y.low < half w → In x (half w) → Least bit_and x y 0
and_zero_y w o l m = swapped and_comm (and_zero w o l m)

pub or_low_x : (w : ℕ) {x y : Interval} → 1 ≤ w → In y (half w) → Words w x → half w ≤ x.low → Least bit_or x y x.low
or_low_x w l m n h = swapped or_comm (or_low w l m n h)

-- no bit is left
pub nothing_left : {f : ℕ → ℕ → ℕ} → IsBitwise f → {x y : Interval} → Words 0 x → Words 0 y → Least f x y 0
nothing_left law {x} {y} m n =
    let none = top-suc 0 in
    record {
      a = 0;
      b = 0;
      in_x = record { low = omega (arith, m.order, m.top); high = omega arith };
      in_y = record { low = omega (arith, n.order, n.top); high = omega arith };
      is = lt-one (law.bound 0 0 0 (omega arith) (omega arith));
      least = λ c d p q. zero-le;
    }
