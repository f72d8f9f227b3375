-- The fractions worked by hand come out so: of each, the pattern below it is at most and the next above it, by computing. Assumes nothing.
use mathlib.Core.Path.{◌≡◌, refl, ap}
use mathlib.Core.Bool.{Bool, true, false}
use Prim.Native.Nat.{ℕ, suc, ◌+◌, ◌-◌, ◌*◌, ◌^◌}
use lib.Dec.{leb}
use borrow.Author.Tests.{leb-true}
use Rattle.gate.specs.Value.{exponent, fraction, magnitude}
use Rattle.std.specs.Prelude.{Some}
use Rattle.watts.specs.Examples.{AllRight, examples}
use Rattle.watts.specs.Watts.{INFINITY, limit_of, nearer, pattern, scaled, with_sign, worth}
use Rattle.watts.proofs.Worth.{pattern_at}

-- p is the pattern below
right : (minus : Bool) (digits places p : ℕ) → leb (suc p) INFINITY ≡ true → leb (worth p * 10 ^ places) (scaled digits) ≡ true
    → leb (suc (scaled digits)) (worth (p + 1) * 10 ^ places) ≡ true
    → Some (with_sign minus (pattern digits places)) ≡ Some (with_sign minus (nearer (scaled digits - worth p * 10 ^ places) (worth (p + 1) * 10 ^ places - scaled digits) p))
right minus digits places p a b c =
    ap (λ (q : ℕ). Some (with_sign minus q)) (pattern_at digits places p (leb-true _ _ a) (leb-true _ _ b) (leb-true _ _ c))

infixr 20 ◌then◌
◌then◌ : {A B : Type 0} → A → B → A × B
a then b = (a, b)

pub all_right : AllRight examples
unfolding limit_of nearer scaled with_sign worth exponent fraction magnitude
all_right =
    right false 55 1 0x40b00000 refl refl refl
    then right false 20 0 0x41a00000 refl refl refl
    then right false 1 1 0x3dcccccc refl refl refl
    then right true 1 1 0x3dcccccc refl refl refl
    then right false 0 0 0 refl refl refl
    then right true 0 1 0 refl refl refl
    then right false 16777217 0 0x4b800000 refl refl refl
    then right false 16777217000000001 9 0x4b800000 refl refl refl
    then right false 16777219 0 0x4b800001 refl refl refl
    then right false 167772155 1 0x4b7fffff refl refl refl
    then right false 1 9 0x3089705f refl refl refl
    then right false 18446744073709551615 0 0x5f7fffff refl refl refl
    then refl
    then tt
