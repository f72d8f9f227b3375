-- The bits that are read have the value of the float that the language's own arithmetic rounds the fraction to: it takes the fraction in units of
-- 2^-149, keeps 24 places of the whole part and rounds by the remainder, and the pattern is at most and the next above the
-- fraction at just that number of places. Assumes nothing.
use mathlib.Core.Path.{◌≡◌, refl, sym, ap, ap₂, subst, ◌∙◌}
use mathlib.Core.Bool.{Bool, not}
use mathlib.Core.Logic.{◌⊎◌, inl, inr, ⊎_elim}
use Prim.Native.Nat.{ℕ, suc, ◌+◌, ◌-◌, ◌*◌, ◌/◌, ◌%◌, ◌^◌, ◌≤◌, ◌<◌, compare, Ordering}
use native.Mathlib.Decide.{dec_lt}
use native.Mathlib.Nat.{add-mul, div-add-mod', div-div-eq-div-mul, div-le_self, div-lt_iff_lt-mul, le-div_iff_mul-le, lt_of_le_of_lt, lt_of_lt_of_le, mod-lt, mul_assoc, mul_comm, mul-le-mul, mul-lt-mul_of_pos_right, mul-one, mul-pos}
use native.Mathlib.Omega.{arith}
use lib.Dec.{T, eqb, eqb_refl, eqb→eq, compare_is_eq, is_le, leb→le, nleb→lt}
use lib.Arith.{lt_of_le-ne}
use lib.Pow.{pow-add, pow_mono, pow_pos}
use lib.Ieee.{Float, nan, inf, fin, binary32, nearest, round, size}
use lib.Ieee.Digits.{size-le, size-lt, size_reaches}
use lib.Ieee.Exact.{HasValue, units_val}
use lib.Ieee.Fits.{nearest-le, round_is}
use lib.Ieee.Nearest.{nearest-ge}
use borrow.Author.Tests.{le-ltb, leb-true, lt-ltb}
use Rattle.gate.specs.Value.{ValueOf, exponent, finite, sign, signed, times, value}
use Rattle.watts.specs.Nearest.{Finite}
use Rattle.watts.specs.Watts.{INFINITY, nearer, pattern, scaled, with_sign, worth}
use Rattle.watts.proofs.Only.{bare, signs, with_finite}
use Rattle.watts.proofs.Worth.{pattern_at, some, worth_at, worth_low}

-- ---- the value of a pattern

pub finite-value : (x : ℕ) → Finite x → value x ≡ finite (signed (sign x) (worth x))
unfolding value worth
finite-value x f = rw (lt-ltb (exponent x) 255 f.number)

from_value : (x : Float) (s : Bool) (a : ℕ) → HasValue x s a (2 ^ 149) → ValueOf x (finite (signed s a))
from_value nan s a h = absurd h
from_value (inf t) s a h = absurd h
from_value (fin t m e) s a h = rw (← h.0) (times t m e a h.1)

-- ---- the language's rounding is by the same remainder

abbrev Compared : Ordering → ℕ → ℕ → Type 0
Compared Ordering.lt a b = a < b
Compared Ordering.eq a b = a ≡ b
Compared Ordering.gt a b = b < a

compared : (a b : ℕ) → Compared (compare a b) a b
compared a b = go (compare a b) (leb→le a b) (nleb→lt a b) (eqb→eq a b) (λ (e : a ≡ b). subst (λ (x : ℕ). T (eqb a x)) e (eqb_refl a))
  where
    go : (o : Ordering) → (T (is_le o) → a ≤ b) → (T (not (is_le o)) → b < a) → (T (compare_is_eq o) → a ≡ b) → (a ≡ b → T (compare_is_eq o)) → Compared o a b
    go Ordering.lt h k e n = lt_of_le-ne (h tt) n
    go Ordering.eq h k e n = e tt
    go Ordering.gt h k e n = k tt

same_choice : (r u b q : ℕ) → r < u → b % 2 ≡ 0 → nearer r (u - r) (b + q) ≡ b + nearest q (compare (r * 2) u)
unfolding nearer
same_choice r u b q h even = go (compare (r * 2) u) (compared (r * 2) u)
  where
    go : (o : Ordering) → Compared o (r * 2) u → nearer r (u - r) (b + q) ≡ b + nearest q o
    go Ordering.lt c = rw (lt-ltb r (u - r) (omega arith))
    go Ordering.eq c = rw (le-ltb r (u - r) (omega arith), le-ltb (u - r) r (omega arith)) (omega arith)
    go Ordering.gt c = rw (le-ltb r (u - r) (omega arith), lt-ltb (u - r) r (omega arith)) (omega arith)

-- ---- the places that it keeps

module _ (minus : Bool) (digits places : ℕ) (small : digits < 2 ^ 64) where
  abbrev N : ℕ
  N = scaled digits

  abbrev D : ℕ
  D = 10 ^ places

  abbrev k : ℕ
  k = size (N / D) - 24

  abbrev u : ℕ
  u = D * 2 ^ k

  abbrev q : ℕ
  q = N / u

  abbrev r : ℕ
  r = N % u

  unit : 0 < u
  unit = mul-pos (some digits places) (pow_pos k)

  whole : q * u + r ≡ N
  whole = div-add-mod' N u

  kept : q ≡ N / D / 2 ^ k
  kept = sym (div-div-eq-div-mul N D (2 ^ k))

  under : N < 2 ^ 213
  unfolding scaled
  under = mul-lt-mul_of_pos_right small (pow_pos 149)

  dropped : k ≤ 189
  dropped = omega (arith, size-le (N / D) 213 (lt_of_le_of_lt (div-le_self N D) under))

  high : q < 2 ^ 24
  high =
      let m : size (N / D) ≤ 24 + k = omega arith in
      let l : N / D < 2 ^ 24 * 2 ^ k = rw (pow-add 2 24 k) at (lt_of_lt_of_le (size-lt (N / D)) (pow_mono m)) in
      rw kept ((div-lt_iff_lt-mul {k = 2 ^ k} {x = N / D} {y = 2 ^ 24} (pow_pos k)).1 l)

  low : (k ≡ 0) ⊎ (2 ^ 23 ≤ q)
  low = go (dec_lt 0 k)
    where
      go : Dec (0 < k) → (k ≡ 0) ⊎ (2 ^ 23 ≤ q)
      go (no h) = inl (omega arith)
      go (yes h) =
          let l : 2 ^ 23 * 2 ^ k ≤ N / D = rw (pow-add 2 23 k) at (size_reaches (N / D) (23 + k) (omega arith)) in
          inr (rw kept ((le-div_iff_mul-le {k = 2 ^ k} {x = 2 ^ 23} {y = N / D} (pow_pos k)).1 l))

  worth_place : (m : ℕ) → m ≤ 2 ^ 24 → (k ≡ 0) ⊎ (2 ^ 23 ≤ m) → worth (k * 2 ^ 23 + m) ≡ m * 2 ^ k
  worth_place m h = ⊎_elim (λ z. none z (dec_lt m (2 ^ 23))) (λ l. worth_at k m (omega (arith, dropped)) l h)
    where
      none : k ≡ 0 → Dec (m < 2 ^ 23) → worth (k * 2 ^ 23 + m) ≡ m * 2 ^ k
      none z (yes l) =
          let e : k * 2 ^ 23 + m ≡ m = omega arith in ap worth e ∙ worth_low m l ∙ sym (ap (λ (n : ℕ). m * 2 ^ n) z ∙ mul-one m)
      none z (no l) = worth_at k m (omega arith) (omega arith) h

  at : (m : ℕ) → m ≤ 2 ^ 24 → (k ≡ 0) ⊎ (2 ^ 23 ≤ m) → worth (k * 2 ^ 23 + m) * D ≡ m * u
  at m h l = ap (λ (n : ℕ). n * D) (worth_place m h l) ∙ mul_assoc m (2 ^ k) D ∙ ap (λ (n : ℕ). m * n) (mul_comm (2 ^ k) D)

  -- what it keeps, rounded
  abbrev Q : ℕ
  Q = nearest q (compare (r * 2) u)

  at_least : (m : ℕ) → q ≤ m → (k ≡ 0) ⊎ (2 ^ 23 ≤ m)
  at_least m h = ⊎_elim (λ z. inl z) (λ l. inr (omega arith)) low

  pattern_rounds : pattern digits places ≡ k * 2 ^ 23 + Q
  pattern_rounds =
      pattern_at digits places (k * 2 ^ 23 + q) (omega (arith, dropped, high)) (omega (arith, here, whole)) (omega (arith, next, whole, left))
      ∙ ap₂ (λ (a b : ℕ). nearer a b (k * 2 ^ 23 + q)) (omega (arith, here, whole)) (omega (arith, next, whole, left))
      ∙ same_choice r u (k * 2 ^ 23) q left (omega arith)
    where
      left : r < u
      left = mod-lt N unit

      here : worth (k * 2 ^ 23 + q) * D ≡ q * u
      here = at q (omega (arith, high)) low

      next : worth (k * 2 ^ 23 + q + 1) * D ≡ q * u + u
      next =
          let e : k * 2 ^ 23 + q + 1 ≡ k * 2 ^ 23 + (q + 1) = omega arith in
          ap (λ (n : ℕ). worth n * D) e ∙ at (q + 1) (omega (arith, high)) (at_least (q + 1) (omega arith)) ∙ add-mul q 1 u ∙ omega arith

  most : Q ≤ 2 ^ 24
  most = omega (arith, nearest-le q (compare (r * 2) u), high)

  rounded : HasValue (round binary32 minus digits D) minus (Q * 2 ^ k) (2 ^ 149)
  unfolding scaled
  rounded =
      subst (λ (x : Float). HasValue x minus (Q * 2 ^ k) (2 ^ 149)) (sym (round_is binary32 minus digits D))
      (units_val binary32 minus Q k (lt_of_le_of_lt (mul-le-mul most (pow_mono dropped)) (leb-true (suc (2 ^ 24 * 2 ^ 189)) (2 ^ 277) refl)))

  pub language_rounds : ValueOf (round binary32 minus digits (10 ^ places)) (value (with_sign minus (pattern digits places)))
  language_rounds = subst (ValueOf (round binary32 minus digits D)) (sym is) (from_value (round binary32 minus digits D) minus (Q * 2 ^ k) rounded)
    where
      P : ℕ
      P = k * 2 ^ 23 + Q

      number : P < INFINITY
      number = omega (arith, dropped, most)

      is : value (with_sign minus (pattern digits places)) ≡ finite (signed minus (Q * 2 ^ k))
      is =
          let s = signs minus P (omega (arith, number)) in
          ap (λ (p : ℕ). value (with_sign minus p)) pattern_rounds
          ∙ finite-value (with_sign minus P) (with_finite minus P number)
          ∙ ap₂ (λ (t : Bool) (a : ℕ). finite (signed t a)) s.0
          (bare (with_sign minus P) ∙ ap worth s.1 ∙ worth_place Q most (at_least Q (nearest-ge q (compare (r * 2) u))))
