-- The span is exact: the search finds a smallest and a largest result, since every result is a word, and no second span is exact.
-- Assumes nothing.
use mathlib.Core.Path.{◌≡◌, ap₂}
use Prim.Native.Nat.{ℕ, ◌^◌, ◌<◌}
use native.Mathlib.Omega.{arith}
use Rattle.word.proofs.Widths.{top-suc}
use Rattle.span.specs.declared.interval.Interval.{Interval}
use Rattle.span.specs.declared.interval.Op.{Op}
use Rattle.span.specs.declared.interval.Op.TheVariants.{And, Not, Or, Xor}
use Rattle.span.specs.Demand.{Exact}
use Rattle.span.specs.interval.Interval.{In, Words, interval}
use Rattle.span.specs.interval.Op.{result, second}
use Rattle.span.specs.extent.Span.{span}
use Rattle.span.specs.steps.Bitwise.{and_bitwise, or_bitwise, xor_bitwise}
use Rattle.span.proofs.extent.Ops.{not_turns}
use Rattle.span.proofs.extent.Searched.{has_largest, has_smallest}

result_word : (w : ℕ) (op : Op) (a b : ℕ) → a < 2 ^ w → b < 2 ^ w → result w op a b < 2 ^ w
unfolding result
result_word w Not a b h l = let t = top-suc w in omega (arith, not_turns w a (omega arith))
result_word w And a b h l = and_bitwise.bound w a b h l
result_word w Or a b h l = or_bitwise.bound w a b h l
result_word w Xor a b h l = xor_bitwise.bound w a b h l

pub span_exact : {w : ℕ} (op : Op) {x : Interval} (y : Interval) → Words w x → Words w (second op y) → Exact w op x y (span w op x y)
unfolding span
span_exact {w} op {x} y mx my = record { low = has_smallest _ x _ w mx.order my.order words; high = has_largest _ x _ w mx.order my.order words }
  where
    words : (a b : ℕ) → In x a → In (second op y) b → result w op a b < 2 ^ w
    words a b i j =
        let t = top-suc w in
        result_word w op a b (omega (arith, i.high, mx.top)) (omega (arith, j.high, my.top))

pub exact_unique : {w : ℕ} {op : Op} {x y s t : Interval} → Exact w op x y s → Exact w op x y t → s ≡ t
exact_unique {w} {op} {x} {y} {s} {t} m n = ap₂ interval low high
  where
    low : s.low ≡ t.low
    low =
        omega (
          arith,
          m.low.least n.low.a n.low.b n.low.in_x n.low.in_y,
          n.low.least m.low.a m.low.b m.low.in_x m.low.in_y,
          m.low.is,
          n.low.is,
        )

    high : s.high ≡ t.high
    high =
        omega (
          arith,
          m.high.greatest n.high.a n.high.b n.high.in_x n.high.in_y,
          n.high.greatest m.high.a m.high.b m.high.in_x m.high.in_y,
          m.high.is,
          n.high.is,
        )
