-- The largest result of an operation is the smallest one of its turned version over words turned round, turned back, since the
-- two results always make up the top word. Assumes nothing.
use mathlib.Core.Path.{◌≡◌, refl, ap, ap₂, ◌∙◌}
use Prim.Native.Nat.{ℕ, ◌+◌, ◌-◌, ◌^◌, ◌≤◌, ◌<◌}
use native.Mathlib.Omega.{arith}
use lib.Bits.{bit_and, bit_or, bit_xor}
use Rattle.word.specs.Word.{top}
use Rattle.word.proofs.Widths.{top-suc}
use Rattle.span.specs.declared.interval.Interval.{Interval}
use Rattle.span.specs.interval.Interval.{Greatest, In, Least, Words, interval, turned}
use Rattle.span.specs.extent.Span.{largest, smallest}
use Rattle.span.specs.interval.Op.{result}
use Rattle.span.specs.declared.interval.Op.TheVariants.{Not}
use Rattle.span.specs.steps.route.Step.{Turns}
use Rattle.span.specs.steps.Bitwise.{IsBitwise, and_bitwise, or_bitwise, xor_bitwise}
use Rattle.span.proofs.extent.Ops.{and_turned, not_turns, or_turned, xor_turned}
use Rattle.span.proofs.extent.Searched.{has_smallest, largest_is, smallest_is, smallest_word}

-- m takes the words of x to those of u, and back
record TurnsBack (m : ℕ → ℕ) (x u : Interval) : Type 0 where
  there : (a : ℕ) → In x a → In u (m a)
  back : (a : ℕ) → In u a → In x (m a)
  again : (a : ℕ) → In u a → m (m a) ≡ a

stays : (x : Interval) → TurnsBack (λ a. a) x x
stays x = record { there = λ a i. i; back = λ a i. i; again = λ a i. refl }

turns : (t : ℕ) (x : Interval) → x.low ≤ x.high → x.high ≤ t → TurnsBack (λ a. t - a) x (turned t x)
unfolding turned
turns t x o h =
    record {
      there = λ a i. record { low = omega arith; high = omega arith };
      back = λ a i. record { low = omega arith; high = omega arith };
      again = λ a i. omega arith;
    }

turned_words : {w : ℕ} {x : Interval} → Words w x → Words w (turned (top w) x)
unfolding turned
turned_words m = record { order = omega arith; top = omega arith }

module _ (w : ℕ) (f g : ℕ → ℕ → ℕ) {m n : ℕ → ℕ} {x y u v : Interval} (tx : TurnsBack m x u) (ty : TurnsBack n y v)
    (sum : (a b : ℕ) → In x a → In y b → f a b + g (m a) (n b) ≡ top w) where
  greatest : {s : ℕ} → Least g u v s → Greatest f x y (top w - s)
  greatest {s} l =
      let i = tx.back l.a l.in_x in
      let j = ty.back l.b l.in_y in
      record {
        a = m l.a;
        b = n l.b;
        in_x = i;
        in_y = j;
        is = omega (arith, sum _ _ i j, ap₂ g (tx.again l.a l.in_x) (ty.again l.b l.in_y) ∙ l.is);
        greatest = λ c d p q. omega (arith, sum c d p q, l.least (m c) (n d) (tx.there c p) (ty.there d q));
      }

  largest_turned : IsBitwise g → Words w u → Words w v → largest w f x y ≡ top w - smallest w g u v
  largest_turned law mu mv =
      let t = top-suc w in
      largest_is f x y w _ (greatest (has_smallest g u v w mu.order mv.order words)) (omega (arith, smallest_word g u v w))
    where
      words : (a b : ℕ) → In u a → In v b → g a b < 2 ^ w
      words a b i j =
          let t = top-suc w in
          law.bound w a b (omega (arith, i.high, mu.top)) (omega (arith, j.high, mv.top))

module _ {w : ℕ} {x y : Interval} (mx : Words w x) (my : Words w y) where
  word : {i : Interval} → Words w i → (a : ℕ) → In i a → a ≤ top w
  word m a k = omega (arith, m.top, k.high)

  -- what the code has, at its top word t
  module _ {t : ℕ} (h : t ≡ top w) {u : Interval} (is_u : u ≡ turned t x) where
    round : (i : Interval) {o : Interval} → o ≡ turned t i → o ≡ turned (top w) i
    round i e = e ∙ ap (λ (n : ℕ). turned n i) h

    module _ {v : Interval} (is_v : v ≡ turned t y) where
      pub and_turns : Turns w bit_and bit_or x y u v
      and_turns =
          rw (round x is_u, round y is_v)
          (record {
            x_words = turned_words mx;
            y_words = turned_words my;
            back =
                largest_turned w bit_and bit_or (turns _ x mx.order mx.top) (turns _ y my.order my.top)
                (λ a b i j. and_turned w a b (word mx a i) (word my b j)) or_bitwise (turned_words mx) (turned_words my);
          })

      pub or_turns : Turns w bit_or bit_and x y u v
      or_turns =
          rw (round x is_u, round y is_v)
          (record {
            x_words = turned_words mx;
            y_words = turned_words my;
            back =
                largest_turned w bit_or bit_and (turns _ x mx.order mx.top) (turns _ y my.order my.top)
                (λ a b i j. or_turned w a b (word mx a i) (word my b j)) and_bitwise (turned_words mx) (turned_words my);
          })

    pub xor_turns : Turns w bit_xor bit_xor x y u y
    xor_turns =
        rw (round x is_u)
        (record {
          x_words = turned_words mx;
          y_words = my;
          back =
              largest_turned w bit_xor bit_xor (turns _ x mx.order mx.top) (stays y)
              (λ a b i j. xor_turned w a b (word mx a i) (word my b j)) xor_bitwise (turned_words mx) my;
        })

-- NOT is the turn itself, whatever word stands for its y
module _ {w : ℕ} {x : Interval} (mx : Words w x) where
  not_is : (a b : ℕ) → In x a → result w Not a b ≡ top w - a
  unfolding result
  not_is a b i = not_turns w a (omega (arith, i.high, mx.top))

  zero_in : In (interval 0 0) 0
  zero_in = record { low = omega arith; high = omega arith }

  pub not_smallest : smallest w (result w Not) x (interval 0 0) ≡ top w - x.high
  not_smallest =
      smallest_is _ _ _ w _
      (record {
        a = x.high;
        b = 0;
        in_x = record { low = mx.order; high = omega arith };
        in_y = zero_in;
        is = not_is _ 0 (record { low = mx.order; high = omega arith });
        least = λ c d p q. omega (arith, not_is c d p, p.high);
      })
      (omega (arith, top-suc w))

  pub not_largest : largest w (result w Not) x (interval 0 0) ≡ top w - x.low
  not_largest =
      largest_is _ _ _ w _
      (record {
        a = x.low;
        b = 0;
        in_x = record { low = omega arith; high = mx.order };
        in_y = zero_in;
        is = not_is _ 0 (record { low = omega arith; high = mx.order });
        greatest = λ c d p q. omega (arith, not_is c d p, p.low);
      })
      (omega (arith, top-suc w))
