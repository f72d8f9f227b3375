-- Of numbers that rise, those about a given one are the nearest to it, and the nearer of these two is the nearest; and no two even places
-- are as near, since between them lies a place that is nearer. Assumes nothing.
use mathlib.Core.Path.{◌≡◌, ap}
use mathlib.Core.Logic.{◌⊎◌, inl, inr, ⊎_elim}
use Prim.Native.Nat.{ℕ, ◌+◌, ◌-◌, ◌%◌, ◌≤◌, ◌<◌}
use native.Mathlib.Decide.{dec_le, dec_lt}
use native.Mathlib.Omega.{arith}
use borrow.Author.Tests.{le-ltb, lt-ltb}
use Rattle.watts.specs.Watts.{nearer}

-- how far apart two whole numbers are
abbrev pub between : ℕ → ℕ → ℕ
between a b = a - b + (b - a)

-- q is p or the next, whichever is nearer, and even where both are as near
record Stays (under over p q : ℕ) : Type 0 where
  is : q ≡ p
  near : under ≤ over
  even : under ≡ over → q % 2 ≡ 0

record Goes (under over p q : ℕ) : Type 0 where
  is : q ≡ p + 1
  near : over ≤ under
  even : over ≡ under → q % 2 ≡ 0

chosen : (under over p : ℕ) → Stays under over p (nearer under over p) ⊎ Goes under over p (nearer under over p)
unfolding nearer
chosen u o p = go (dec_lt u o) (dec_lt o u) (dec_lt 0 (p % 2))
  where
    go : Dec (u < o) → Dec (o < u) → Dec (0 < p % 2) → Stays u o p (nearer u o p) ⊎ Goes u o p (nearer u o p)
    go (yes a) b k = rw (lt-ltb u o a) (inl (record { is = omega arith; near = omega arith; even = λ e. absurd (omega arith) }))
    go (no a) (yes b) k = rw (le-ltb u o (omega arith), lt-ltb o u b) (inr (record { is = omega arith; near = omega arith; even = λ e. absurd (omega arith) }))
    go (no a) (no b) (yes k) = rw (le-ltb u o (omega arith), le-ltb o u (omega arith)) (inr (record { is = omega arith; near = omega arith; even = λ e. omega arith }))
    go (no a) (no b) (no k) = rw (le-ltb u o (omega arith), le-ltb o u (omega arith)) (inl (record { is = omega arith; near = omega arith; even = λ e. omega arith }))

pub nearer_most : (under over p : ℕ) → nearer under over p ≤ p + 1
nearer_most u o p = ⊎_elim (λ c. omega (arith, c.is)) (λ c. omega (arith, c.is)) (chosen u o p)

module _ (v : ℕ → ℕ) (top : ℕ) (rises : (a b : ℕ) → a < b → b < top → v a < v b) (n : ℕ) where
  keeps : (a b : ℕ) → a ≤ b → b < top → v a ≤ v b
  keeps a b h k = go (dec_lt a b)
    where
      go : Dec (a < b) → v a ≤ v b
      go (yes l) = omega (arith, rises a b l k)
      go (no l) = let e : a ≡ b = omega arith in omega (arith, ap v e)

  -- between two as near lies one that is nearer
  pub nearer_between : (a b c : ℕ) → a < c → c < b → b < top → between n (v a) ≡ between n (v b) → between n (v c) < between n (v a)
  nearer_between a b c h i k e = omega (arith, rises a c h (omega arith), rises c b i k)

  module _ (p : ℕ) (fin : p + 1 < top) (low : v p ≤ n) (high : n < v (p + 1)) where
    abbrev under : ℕ
    under = n - v p

    abbrev over : ℕ
    over = v (p + 1) - n

    -- how far each place is, by the side that it is on
    side : (b : ℕ) → b < top → ((b ≤ p) × (v b ≤ v p)) ⊎ ((p + 1 ≤ b) × (v (p + 1) ≤ v b))
    side b h = go (dec_le b p)
      where
        go : Dec (b ≤ p) → ((b ≤ p) × (v b ≤ v p)) ⊎ ((p + 1 ≤ b) × (v (p + 1) ≤ v b))
        go (yes l) = inl (l, keeps b p l (omega arith))
        go (no l) = inr (omega arith, keeps (p + 1) b (omega arith) h)

    pub nearest : (b : ℕ) → b < top → between n (v (nearer under over p)) ≤ between n (v b)
    nearest b h =
        ⊎_elim
        (λ c. ⊎_elim (λ s. omega (arith, ap v c.is)) (λ s. omega (arith, ap v c.is, c.near)) (side b h))
        (λ c. ⊎_elim (λ s. omega (arith, ap v c.is, c.near)) (λ s. omega (arith, ap v c.is)) (side b h))
        (chosen under over p)

    pub even : (b : ℕ) → b < top → (b ≡ nearer under over p → ⊥) → between n (v b) ≡ between n (v (nearer under over p)) → nearer under over p % 2 ≡ 0
    even b h other e = ⊎_elim stays goes (chosen under over p)
      where
        stays : Stays under over p (nearer under over p) → nearer under over p % 2 ≡ 0
        stays c = go (dec_lt b p) (dec_lt (p + 1) b)
          where
            go : Dec (b < p) → Dec (p + 1 < b) → nearer under over p % 2 ≡ 0
            go (yes l) m = absurd (omega (arith, ap v c.is, rises b p l (omega arith)))
            go (no l) (yes m) = absurd (omega (arith, ap v c.is, c.near, rises (p + 1) b m h))
            go (no l) (no m) = here (dec_lt p b)
              where
                here : Dec (p < b) → nearer under over p % 2 ≡ 0
                here (yes k) = let i : b ≡ p + 1 = omega arith in c.even (omega (arith, ap v c.is, ap v i))
                here (no k) = absurd (other (omega (arith, c.is)))

        goes : Goes under over p (nearer under over p) → nearer under over p % 2 ≡ 0
        goes c = go (dec_lt b p) (dec_lt (p + 1) b)
          where
            go : Dec (b < p) → Dec (p + 1 < b) → nearer under over p % 2 ≡ 0
            go (yes l) m = absurd (omega (arith, ap v c.is, c.near, rises b p l (omega arith)))
            go (no l) (yes m) = absurd (omega (arith, ap v c.is, rises (p + 1) b m h))
            go (no l) (no m) = here (dec_lt p b)
              where
                here : Dec (p < b) → nearer under over p % 2 ≡ 0
                here (yes k) = absurd (other (omega (arith, c.is)))
                here (no k) = let i : b ≡ p = omega arith in c.even (omega (arith, ap v c.is, ap v i))
