-- The order of numbers that are a sign and a magnitude: of two below zero the larger magnitude comes first, and zero with either
-- sign is one number. Assumes nothing.
use mathlib.Core.Path.{◌≡◌, refl, sym, ap, ap₂, ◌∙◌}
use mathlib.Core.Bool.{Bool, true, false, not, ◌&&◌, and_comm, false≢true}
use Prim.Native.Nat.{ℕ, zero, suc}
use lib.Dec.{eqb, leb, leb-suc-suc, leb-suc-zero, leb-zero, eqb-suc-zero}
use lib.IntN.{ℤ, negsuc, pos}
use lib.Signed.{le_z}
use native.Mathlib.Nat.{le_trans}
use borrow.Author.Tests.{le-leb, leb-true}
use Rattle.gate.specs.Value.{Value, finite, infinity, le_v, not_a_number, signed}

abbrev pub in_order : Bool → ℕ → Bool → ℕ → Bool
in_order false a false b = leb a b
in_order false a true b = eqb a 0 && eqb b 0
in_order true a false b = true
in_order true a true b = leb b a

pub signed_order : (s t : Bool) (a b : ℕ) → le_z (signed s a) (signed t b) ≡ in_order s a t b
unfolding signed
signed_order false false a b = refl
signed_order false true zero zero = refl
signed_order false true zero (suc b) = sym (eqb-suc-zero b)
signed_order false true (suc a) zero = leb-suc-zero a ∙ sym (ap (λ (c : Bool). c && true) (eqb-suc-zero a))
signed_order false true (suc a) (suc b) = sym (ap (λ (c : Bool). c && eqb (suc b) 0) (eqb-suc-zero a))
signed_order true false zero b = leb-zero b
signed_order true false (suc a) b = refl
signed_order true true zero zero = refl
signed_order true true zero (suc b) = sym (leb-suc-zero b)
signed_order true true (suc a) zero = sym (leb-zero (suc a))
signed_order true true (suc a) (suc b) = sym (leb-suc-suc b a)

-- with the signs turned the order is turned
pub turn_order : (s t : Bool) (a b : ℕ) → in_order s a t b ≡ in_order (not t) b (not s) a
turn_order false false a b = refl
turn_order false true a b = and_comm (eqb a 0) (eqb b 0)
turn_order true false a b = refl
turn_order true true a b = refl

-- it depends on how the magnitudes compare, and on whether they are zero
pub same_order : (s t : Bool) (a b c d : ℕ) → leb a b ≡ leb c d → leb b a ≡ leb d c → eqb a 0 ≡ eqb c 0 → eqb b 0 ≡ eqb d 0
    → in_order s a t b ≡ in_order s c t d
same_order false false a b c d e f g h = e
same_order false true a b c d e f g h = ap₂ ◌&&◌ g h
same_order true false a b c d e f g h = refl
same_order true true a b c d e f g h = f

-- the order of whole numbers, and of values, passes on
leb_trans : (a b c : ℕ) → leb a b ≡ true → leb b c ≡ true → leb a c ≡ true
leb_trans a b c d e = le-leb a c (le_trans (leb-true a b d) (leb-true b c e))

le_z_trans : (a b c : ℤ) → le_z a b ≡ true → le_z b c ≡ true → le_z a c ≡ true
le_z_trans (pos a) (pos b) (pos c) d e = leb_trans a b c d e
le_z_trans (pos a) (pos b) (negsuc c) d e = e
le_z_trans (pos a) (negsuc b) c d e = absurd (false≢true d)
le_z_trans (negsuc a) b (pos c) d e = refl
le_z_trans (negsuc a) (pos b) (negsuc c) d e = absurd (false≢true e)
le_z_trans (negsuc a) (negsuc b) (negsuc c) d e = leb_trans c b a e d

finite_passes : (a b : ℤ) (w : Value) → le_z a b ≡ true → le_v (finite b) w ≡ true → le_v (finite a) w ≡ true
unfolding le_v
finite_passes a b (finite c) d e = le_z_trans a b c d e
finite_passes a b (infinity t) d e = e
finite_passes a b not_a_number d e = e

-- what nothing but an infinity is at least, a finite value is at most too
above_passes : (a : ℤ) (w : Value) → le_v (infinity false) w ≡ true → le_v (finite a) w ≡ true
unfolding le_v
above_passes a (finite c) e = absurd (false≢true e)
above_passes a (infinity t) e = e
above_passes a not_a_number e = e

apart : (v : Value) → le_v v not_a_number ≡ false
unfolding le_v
apart (finite a) = refl
apart (infinity s) = refl
apart not_a_number = refl

below_all : (v w : Value) → le_v v w ≡ true → le_v (infinity true) w ≡ true
unfolding le_v
below_all v (finite c) e = refl
below_all v (infinity t) e = refl
below_all v not_a_number e = absurd (false≢true (sym (apart v) ∙ e))

pub le_v_trans : (u v w : Value) → le_v u v ≡ true → le_v v w ≡ true → le_v u w ≡ true
unfolding le_v
le_v_trans (finite a) (finite b) w d e = finite_passes a b w d e
le_v_trans (finite a) (infinity true) w d e = absurd (false≢true d)
le_v_trans (finite a) (infinity false) w d e = above_passes a w e
le_v_trans (finite a) not_a_number w d e = absurd (false≢true d)
le_v_trans (infinity true) v w d e = below_all v w e
le_v_trans (infinity false) (finite b) w d e = absurd (false≢true d)
le_v_trans (infinity false) (infinity true) w d e = absurd (false≢true d)
le_v_trans (infinity false) (infinity false) w d e = e
le_v_trans (infinity false) not_a_number w d e = absurd (false≢true d)
le_v_trans not_a_number v w d e = absurd (false≢true d)
