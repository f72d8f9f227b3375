-- A pattern's value by its sign and its other 31 bits; and the order of the values of numbers is that of sign and bits. Assumes nothing.
use mathlib.Core.Path.{◌≡◌, refl, sym, ap, ap₂, ◌∙◌}
use mathlib.Core.Bool.{Bool, true, false, not, ◌||◌, and-false, cond}
use Prim.Native.Nat.{ℕ, ◌/◌, ◌%◌, ◌^◌, ◌≤◌, ◌<◌}
use native.Mathlib.Decide.{dec_lt}
use native.Mathlib.Omega.{arith}
use lib.Dec.{eqb, ltb}
use borrow.Author.Tests.{le-leb, le-ltb, lt-leb, lt-ltb, ne_eqb}
use Rattle.gate.specs.Value.{Value, exponent, finite, fraction, infinity, le_v, not_a_number, sign, signed, value}
use Rattle.gate.proofs.Magnitude.{mag, mag_order, mag_zero}
use Rattle.gate.proofs.Order.{in_order, same_order, signed_order}

-- the bits of an infinity, without the sign
abbrev pub INFINITY : ℕ
INFINITY = 0x7f800000

abbrev pub reading : Bool → ℕ → Value
reading s m =
    cond (ltb (m / 2 ^ 23) 255) (finite (signed s (mag m))) (cond (eqb (m % 2 ^ 23) 0) (infinity s) not_a_number)

pub value_is : (x : ℕ) → value x ≡ reading (sign x) (x % 2 ^ 31)
unfolding value exponent fraction
value_is x = let e : x % 2 ^ 23 ≡ x % 2 ^ 31 % 2 ^ 23 = omega arith in rw e

-- a number's value is finite, or an infinity
is_finite : (s : Bool) (m : ℕ) → m < INFINITY → reading s m ≡ finite (signed s (mag m))
is_finite s m h = rw (lt-ltb (m / 2 ^ 23) 255 (omega arith))

is_infinite : (s : Bool) (m : ℕ) → m ≡ INFINITY → reading s m ≡ infinity s
is_infinite s m e = rw e

-- and what is above it is not a number
pub no_number : (s : Bool) (m : ℕ) → INFINITY < m → m < 2 ^ 31 → reading s m ≡ not_a_number
no_number s m h k = rw (le-ltb (m / 2 ^ 23) 255 (omega arith), ne_eqb (m % 2 ^ 23) 0 (λ e. omega arith))

pub reading_order : (s t : Bool) (m n : ℕ) → m ≤ INFINITY → n ≤ INFINITY → le_v (reading s m) (reading t n) ≡ in_order s m t n
unfolding le_v
reading_order s t m n hm hn = go (dec_lt m INFINITY) (dec_lt n INFINITY)
  where
    last_out : (t : Bool) → m < INFINITY → not t ≡ in_order s m t INFINITY
    last_out false h = out s
      where
        out : (s : Bool) → true ≡ in_order s m false INFINITY
        out false = sym (le-leb m INFINITY hm)
        out true = refl
    last_out true h = out s
      where
        out : (s : Bool) → false ≡ in_order s m true INFINITY
        out false = sym (and-false (eqb m 0))
        out true = sym (lt-leb INFINITY m h)

    first_out : (s : Bool) → n < INFINITY → s ≡ in_order s INFINITY t n
    first_out false h = out t
      where
        out : (t : Bool) → false ≡ in_order false INFINITY t n
        out false = sym (lt-leb INFINITY n h)
        out true = refl
    first_out true h = out t
      where
        out : (t : Bool) → true ≡ in_order true INFINITY t n
        out false = refl
        out true = sym (le-leb n INFINITY hn)

    both_out : (s t : Bool) → (s || not t) ≡ in_order s INFINITY t INFINITY
    both_out false false = refl
    both_out false true = refl
    both_out true false = refl
    both_out true true = refl

    go : Dec (m < INFINITY) → Dec (n < INFINITY) → le_v (reading s m) (reading t n) ≡ in_order s m t n
    go (yes p) (yes q) =
        ap₂ le_v (is_finite s m p) (is_finite t n q) ∙ signed_order s t (mag m) (mag n)
        ∙ same_order s t (mag m) (mag n) m n (mag_order m n) (mag_order n m) (mag_zero m) (mag_zero n)
    go (yes p) (no q) =
        let e : n ≡ INFINITY = omega arith in
        ap₂ le_v (is_finite s m p) (is_infinite t n e) ∙ last_out t p ∙ ap (in_order s m t) (sym e)
    go (no p) (yes q) =
        let e : m ≡ INFINITY = omega arith in
        ap₂ le_v (is_infinite s m e) (is_finite t n q) ∙ first_out s q ∙ ap (λ (k : ℕ). in_order s k t n) (sym e)
    go (no p) (no q) =
        let e : m ≡ INFINITY = omega arith in
        let d : n ≡ INFINITY = omega arith in
        ap₂ le_v (is_infinite s m e) (is_infinite t n d) ∙ both_out s t ∙ ap₂ (λ (k l : ℕ). in_order s k t l) (sym e) (sym d)
