-- One bit of the way down. A word of an interval lies below the half or from the half on, and is that side's bit with a word of
-- that part of the interval. Where one choice of sides gives a smaller bit than every other that the intervals allow, the smallest
-- result is that bit with the smallest result over the two parts. Assumes nothing.
use mathlib.Core.Path.{◌≡◌, refl, sym, ap, ap₂, ◌∙◌, subst}
use mathlib.Core.Logic.{◌⊎◌, inl, inr}
use Prim.Native.Nat.{ℕ, suc, ◌+◌, ◌-◌, ◌*◌, ◌≤◌, ◌<◌}
use native.Mathlib.Nat.{mul-le-mul_right}
use native.Mathlib.Decide.{dec_lt}
use native.Mathlib.Omega.{arith}
use Rattle.word.specs.Word.{IsWidth, half}
use Rattle.word.proofs.Widths.{halves, top-suc}
use Rattle.span.specs.declared.interval.Interval.{Interval}
use Rattle.span.specs.interval.Interval.{In, Least, Words, lower, upper}
use Rattle.span.specs.steps.route.Step.{Opens}
use Rattle.span.specs.steps.Bitwise.{IsBitwise}

pub data Side : Type 0 where
  low : Side
  high : Side

abbrev pub other : Side → Side
other low = high
other high = low

abbrev pub bit : Side → ℕ
bit low = 0
bit high = 1

-- the interval has a word on that side of h
abbrev pub Has : ℕ → Side → Interval → Type 0
Has h low i = i.low < h
Has h high i = h ≤ i.high

-- its words on that side, with the side's bit taken away
abbrev pub part : ℕ → Side → Interval → Interval
part h low i = lower h i
part h high i = upper h i

this_or_other : (s r : Side) → (r ≡ s) ⊎ (r ≡ other s)
this_or_other low low = inl refl
this_or_other low high = inr refl
this_or_other high low = inr refl
this_or_other high high = inl refl

-- a word of the interval, taken apart
record Halved (h : ℕ) (i : Interval) (c : ℕ) : Type 0 where
  side : Side
  rest : ℕ
  is : c ≡ bit side * h + rest
  small : rest < h
  has : Has h side i
  in_part : In (part h side i) rest

halve : (h : ℕ) (i : Interval) (c : ℕ) → In i c → i.high < h + h → Halved h i c
unfolding lower upper
halve h i c m b = go (dec_lt c h)
  where
    go : Dec (c < h) → Halved h i c
    go (yes d) =
        record { side = low; rest = c; is = omega arith; small = d; has = omega arith; in_part = record { low = m.low; high = omega arith } }
    go (no d) =
        record {
          side = high;
          rest = c - h;
          is = omega arith;
          small = omega arith;
          has = omega arith;
          in_part = record { low = omega arith; high = omega arith };
        }

-- a word of a part is one of the interval, with the side's bit
whole : (h : ℕ) (s : Side) (i : Interval) (r : ℕ) → Has h s i → In (part h s i) r → In i (bit s * h + r)
unfolding lower upper
whole h low i r b m = record { low = omega arith; high = omega arith }
whole h high i r b m = record { low = omega arith; high = omega arith }

part_words : (w : ℕ) → 1 ≤ w → (s : Side) (i : Interval) → Words w i → Has (half w) s i → Words (w - 1) (part (half w) s i)
unfolding lower upper half
part_words w l low i m b = record { order = omega arith; top = omega (arith, top-suc (w - 1)) }
part_words w l high i m b = record { order = omega arith; top = omega (arith, top-suc (w - 1), halves w l) }

module _ {f : ℕ → ℕ → ℕ} (law : IsBitwise f) {w : ℕ} (width : IsWidth w) {x y : Interval} (words : Words w x × Words w y) where
  top_of : {i : Interval} → Words w i → i.high < half w + half w
  top_of m = omega (arith, halves w width.low)

  apart : (s t : Side) (p q : ℕ) → p < half w → q < half w → f (bit s * half w + p) (bit t * half w + q) ≡ f (bit s) (bit t) * half w + f p q
  unfolding half
  apart s t p q hp hq = law.block (w - 1) (bit s) (bit t) p q hp hq

  low_bits : (p q : ℕ) → p < half w → q < half w → f p q < half w
  unfolding half
  low_bits p q hp hq = law.bound (w - 1) p q hp hq

  one_bit : (s t : Side) → f (bit s) (bit t) ≤ 1
  one_bit s t = omega (arith, law.bound 1 (bit s) (bit t) (digit s) (digit t))
    where
      digit : (r : Side) → bit r < 2
      digit low = omega arith
      digit high = omega arith

  -- the sides s and t are open to x and y, and every other choice gives a larger bit
  module _ (s t : Side) (has_x : Has (half w) s x) (has_y : Has (half w) t y)
      (x_other : Has (half w) (other s) x → Has (half w) t y → f (bit s) (bit t) < f (bit (other s)) (bit t))
      (y_other : Has (half w) s x → Has (half w) (other t) y → f (bit s) (bit t) < f (bit s) (bit (other t)))
      (both_other : Has (half w) (other s) x → Has (half w) (other t) y → f (bit s) (bit t) < f (bit (other s)) (bit (other t))) where
    px : Words (w - 1) (part (half w) s x)
    px = part_words w width.low s x words.0 has_x

    py : Words (w - 1) (part (half w) t y)
    py = part_words w width.low t y words.1 has_y

    below : {i : Interval} → Words (w - 1) i → (r : ℕ) → In i r → r < half w
    unfolding half
    below m r k = omega (arith, m.top, k.high, top-suc (w - 1))

    carried : (v : ℕ) → Least f (part (half w) s x) (part (half w) t y) v → Least f x y (f (bit s) (bit t) * half w + v)
    carried v m =
        record {
          a = bit s * half w + m.a;
          b = bit t * half w + m.b;
          in_x = whole (half w) s x m.a has_x m.in_x;
          in_y = whole (half w) t y m.b has_y m.in_y;
          is = apart s t m.a m.b (below px m.a m.in_x) (below py m.b m.in_y) ∙ ap (λ (n : ℕ). f (bit s) (bit t) * half w + n) m.is;
          least = λ c d p q. at_least c d (halve (half w) x c p (top_of words.0)) (halve (half w) y d q (top_of words.1));
        }
      where
        small : v < half w
        small = omega (arith, m.is, low_bits m.a m.b (below px m.a m.in_x) (below py m.b m.in_y))

        larger : (n : ℕ) → f (bit s) (bit t) < n → (k : ℕ) → f (bit s) (bit t) * half w + v ≤ n * half w + k
        larger n h k = omega (arith, small, mul-le-mul_right {m = suc (f (bit s) (bit t))} {n = n} (half w) h)

        by_sides : (p q : ℕ) (s' t' : Side) → (s' ≡ s) ⊎ (s' ≡ other s) → (t' ≡ t) ⊎ (t' ≡ other t) → Has (half w) s' x → Has (half w) t' y
            → In (part (half w) s' x) p → In (part (half w) t' y) q → f (bit s) (bit t) * half w + v ≤ f (bit s') (bit t') * half w + f p q
        by_sides p q s' t' (inl e) (inl d) hx hy ip iq =
            let jp = subst (λ (r : Side). In (part (half w) r x) p) e ip in
            let jq = subst (λ (r : Side). In (part (half w) r y) q) d iq in
            rw (e, d) (omega (arith, m.least p q jp jq))
        by_sides p q s' t' (inr e) (inl d) hx hy ip iq =
            let jx = subst (λ (r : Side). Has (half w) r x) e hx in rw (e, d) (larger _ (x_other jx has_y) (f p q))
        by_sides p q s' t' (inl e) (inr d) hx hy ip iq =
            let jy = subst (λ (r : Side). Has (half w) r y) d hy in rw (e, d) (larger _ (y_other has_x jy) (f p q))
        by_sides p q s' t' (inr e) (inr d) hx hy ip iq =
            let jx = subst (λ (r : Side). Has (half w) r x) e hx in
            let jy = subst (λ (r : Side). Has (half w) r y) d hy in
            rw (e, d) (larger _ (both_other jx jy) (f p q))

        at_least : (c d : ℕ) → Halved (half w) x c → Halved (half w) y d → f (bit s) (bit t) * half w + v ≤ f c d
        at_least c d g k =
            subst (λ (n : ℕ). f (bit s) (bit t) * half w + v ≤ n)
            (sym (ap₂ f g.is k.is ∙ apart g.side k.side g.rest k.rest g.small k.small))
            (by_sides g.rest k.rest g.side k.side (this_or_other s g.side) (this_or_other t k.side)
            g.has k.has g.in_part k.in_part)

    -- what the code hands on: the bit b, and the parts p and q at its half h
    pub opened : {h b : ℕ} {p q : Interval} → h ≡ half w → b ≡ f (bit s) (bit t) * half w → p ≡ part h s x → q ≡ part h t y → Opens w f x y b p q
    opened i e d c =
        rw (e, d, c, i)
        (record {
          small = omega (arith, mul-le-mul_right {m = f (bit s) (bit t)} {n = 1} (half w) (one_bit s t));
          x_words = px;
          y_words = py;
          carries = carried;
        })
