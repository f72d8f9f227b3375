-- The order of values is the language's own comparison of the floats of the patterns, for all patterns: the sign, the exponent and the
-- fraction that a value is made of are those that the float is made of, and each finite float is a fraction over 2^149. Assumes nothing.
use mathlib.Core.Path.{◌≡◌, refl, sym, ap, ◌∙◌}
use mathlib.Core.Bool.{Bool, true, false, not, ◌&&◌, ◌||◌, cond, and-false, or-false}
use Prim.Native.Nat.{ℕ, zero, suc, ◌+◌, ◌*◌, ◌/◌, ◌%◌, ◌^◌, ◌≤◌, ◌<◌}
use native.Mathlib.Nat.{le_of_mul-le-mul_right, mul-le-mul_right, mul-one, zero-mul}
use native.Mathlib.Decide.{dec_lt}
use native.Mathlib.Omega.{arith}
use lib.Dec.{eqb, eqb-suc-zero, eqb-zero-suc, leb, ltb}
use lib.IntN.{ℤ}
use lib.Pow.{pow_pos}
use lib.Ieee.{Float, nan, inf, below, binary32, down, le, level, odd, of_bits, of_fields, up}
use lib.Ieee.Digits.{odd_val}
use lib.Ieee.Fits.{down_pos}
use lib.Ieee.Order.{transfer}
use borrow.Author.Tests.{eq-eqb, eqb-true, le-leb, le-ltb, lt-leb, lt-ltb, ne_eqb}
use Rattle.word.proofs.Tests.{leb_same, same_test}
use Rattle.gate.specs.Value.{Value, ValueOf, apart, beyond, exponent, finite, fraction, infinity, le_v, magnitude, not_a_number, sign, signed, times, value}
use Rattle.gate.proofs.Order.{in_order, same_order, signed_order}

odd_value : (s : Bool) (q k : ℕ) → ValueOf (odd 24 s q k 149) (finite (signed s (q * 2 ^ k)))
unfolding odd
odd_value s zero k = times s _ _ _ (odd_val 24 s zero k 149)
odd_value s (suc q) k = times s _ _ _ (odd_val 24 s (suc q) k 149)

fields_value : (s : Bool) (e f : ℕ) → e ≤ 255
    → ValueOf (of_fields binary32 s e f) (cond (ltb e 255) (finite (signed s (magnitude e f))) (cond (eqb f 0) (infinity s) not_a_number))
unfolding of_fields magnitude
fields_value s zero f h = rw mul-one at (odd_value s f 0)
fields_value s (suc e) f h = go (dec_lt (suc e) 255)
  where
    highest : (f : ℕ) → ValueOf (cond (eqb f 0) (inf s) nan) (cond (eqb f 0) (infinity s) not_a_number)
    highest zero = beyond s
    highest (suc f) = rw eqb-suc-zero apart

    go : Dec (suc e < 255)
        → ValueOf (cond (eqb (suc e) 255) (cond (eqb f 0) (inf s) nan) (odd 24 s (2 ^ 23 + f) e 149))
        (cond (ltb (suc e) 255) (finite (signed s ((2 ^ 23 + f) * 2 ^ e))) (cond (eqb f 0) (infinity s) not_a_number))
    go (yes l) = rw (lt-ltb (suc e) 255 l, ne_eqb (suc e) 255 (λ q. omega arith)) (odd_value s (2 ^ 23 + f) e)
    go (no l) = rw (le-ltb (suc e) 255 (omega arith), eq-eqb (suc e) 255 (omega arith)) (highest f)

-- the value of a pattern is that of its float
pub value_of : (x : ℕ) → ValueOf (of_bits binary32 x) (value x)
unfolding value sign exponent fraction of_bits
value_of x = fields_value (leb (2 ^ 31) x) (x % 2 ^ 31 / 2 ^ 23) (x % 2 ^ 23) (omega arith)

-- two finite floats compare as their fractions' numerators over 2^149 do
module _ (m n : ℕ) (e d : ℤ) (a b : ℕ) (p : m * up e * 2 ^ 149 ≡ a * down e) (q : n * up d * 2 ^ 149 ≡ b * down d) where
  to : a ≤ b → m * up e * down d ≤ n * up d * down e
  to h =
      transfer (m * up e) (n * up d) (down e) (down d) a b (2 ^ 149) (2 ^ 149) (pow_pos 149) (pow_pos 149) p q (mul-le-mul_right (2 ^ 149) h)

  back : m * up e * down d ≤ n * up d * down e → a ≤ b
  back h =
      le_of_mul-le-mul_right
      (transfer a b (2 ^ 149) (2 ^ 149) (m * up e) (n * up d) (down e) (down d) (down_pos e) (down_pos d) (sym p) (sym q) h)
      (pow_pos 149)

  compared : leb a b ≡ leb (m * up e * down d) (n * up d * down e)
  compared = leb_same a b (m * up e * down d) (n * up d * down e) to back

zero_alike : (m : ℕ) (e d : ℤ) (a : ℕ) → m * up e * 2 ^ 149 ≡ a * down e → eqb a 0 ≡ eqb (m * up e * down d) 0
zero_alike m e d a p =
    same_test (eqb a 0) (eqb (m * up e * down d) 0)
    (λ h. eq-eqb (m * up e * down d) 0 (omega (arith, to m 0 e d a 0 p nil (omega (arith, eqb-true a 0 h)), none)))
    (λ h. eq-eqb a 0 (omega (arith, back m 0 e d a 0 p nil (omega (arith, eqb-true (m * up e * down d) 0 h, none)))))
  where
    none : 0 * up d * down e ≡ 0
    none = ap (λ (k : ℕ). k * down e) (zero-mul (up d)) ∙ zero-mul (down e)

    nil : 0 * up d * 2 ^ 149 ≡ 0 * down d
    nil = ap (λ (k : ℕ). k * 2 ^ 149) (zero-mul (up d)) ∙ sym (zero-mul (down d))

-- what the language does with two signs and two magnitudes
not_above : (a b : ℕ) → leb a b ≡ (ltb a b || (eqb a b && true))
not_above a b = go (dec_lt a b) (dec_lt b a)
  where
    go : Dec (a < b) → Dec (b < a) → leb a b ≡ (ltb a b || (eqb a b && true))
    go (yes l) h = rw (le-leb a b (omega arith), lt-ltb a b l)
    go (no l) (yes h) = rw (lt-leb a b h, le-ltb a b (omega arith), ne_eqb a b (λ q. omega arith))
    go (no l) (no h) = rw (le-leb a b (omega arith), le-ltb a b (omega arith), eq-eqb a b (omega arith))

plain : (s t : Bool) (a b : ℕ) → in_order s a t b ≡ (below s a t b || level s a t b)
plain false false a b = not_above a b
plain false true zero zero = refl
plain false true zero (suc b) = rw (eqb-suc-zero, eqb-zero-suc)
plain false true (suc a) b = rw eqb-suc-zero (sym (and-false (eqb (suc a) b)))
plain true false zero zero = refl
plain true false zero (suc b) = rw (lt-ltb 0 (0 + suc b) (omega arith))
plain true false (suc a) b = rw (lt-ltb 0 (suc a + b) (omega arith))
plain true true a b = not_above b a ∙ ap (λ (c : Bool). ltb b a || (c && true)) turn
  where
    turn : eqb b a ≡ eqb a b
    turn = same_test (eqb b a) (eqb a b) (λ h. eq-eqb a b (sym (eqb-true b a h))) (λ h. eq-eqb b a (sym (eqb-true a b h)))

same_compare : {v w : Value} {x y : Float} → ValueOf x v → ValueOf y w → le_v v w ≡ le x y
unfolding le_v le
same_compare (times s m e a p) (times t n d b q) =
    signed_order s t a b
    ∙ same_order s t a b (m * up e * down d) (n * up d * down e) (compared m n e d a b p q) (compared n m d e b a q p) (zero_alike m e d a p) (zero_alike n d e b q)
    ∙ plain s t (m * up e * down d) (n * up d * down e)
same_compare (times s m e a p) (beyond t) = sym (or-false (not t))
same_compare (times s m e a p) apart = refl
same_compare (beyond s) (times t n d b q) = sym (or-false s)
same_compare (beyond false) (beyond false) = refl
same_compare (beyond false) (beyond true) = refl
same_compare (beyond true) (beyond false) = refl
same_compare (beyond true) (beyond true) = refl
same_compare (beyond s) apart = refl
same_compare apart r = refl

-- "A reading meets a gate by IEEE 754 comparison"
pub language_order : (a b : ℕ) → le_v (value a) (value b) ≡ le (of_bits binary32 a) (of_bits binary32 b)
language_order a b = same_compare (value_of a) (value_of b)
