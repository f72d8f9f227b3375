-- The four rules of a gate by their closed form: at least a limit is within it and the infinity above all, at most a limit within the
-- infinity below all and it, since every number lies between the infinities. Assumes nothing.
use mathlib.Core.Path.{◌≡◌, refl, sym, ap, ap₂, fun_ext, subst, ◌∙◌}
use mathlib.Core.Bool.{Bool, true, false, ◌&&◌, and-true, cond}
use Prim.Native.Nat.{ℕ, ◌+◌, ◌%◌, ◌^◌}
use native.Mathlib.Omega.{arith}
use lib.Dec.{T}
use lib.Ieee.{Float, binary32, fits, is_nan, to_bits}
use lib.Ieee.Bits.{nan_bits_above, nan_bits_is, of_bits-to_bits, to_bits-lt}
use borrow.Author.Tests.{ltb-false}
use Rattle.word.specs.Word.{half, top}
use Rattle.word.proofs.Tests.{both_fail}
use Rattle.gate.specs.declared.Four.{Four}
use Rattle.gate.specs.declared.Gate.{Gate}
use Rattle.gate.specs.declared.Gate.TheVariants.{AtLeast, AtMost, Within}
use Rattle.gate.specs.declared.Refusal.TheVariants.{NotANumber}
use Rattle.std.specs.Prelude.{Ok, Err}
use Rattle.gate.specs.Gate.{four, four_of, meets_gate, not_numbers, over, through, turned, under, worth}
use Rattle.gate.specs.Paper.{Single}
use Rattle.gate.specs.route.Route.{IsLimit, between_rules, high_of, low_of, run_of}
use Rattle.gate.specs.Value.{Value, finite, infinity, le_v, exponent, fraction, not_a_number, sign, value}
use Rattle.gate.proofs.Halves.{over_is, under_is}
use Rattle.gate.proofs.Limits.{in_span, lower_runs, no_order, upper_runs}

-- the search over a span's words, without it
pub span_rules : (low high : ℕ) → IsLimit low → IsLimit high → four_of (in_span low high) ≡ between_rules low high
unfolding four_of between_rules run_of
span_rules low high hl hh =
    let upper : ℕ → Bool = λ y. in_span low high (half 32 + y) in
    ap₂ (λ (u o : ℕ). four u o (under upper) (over upper)) (under_is _ _ _ (lower_runs low high hl hh)) (over_is _ _ _ (lower_runs low high hl hh))
    ∙ ap₂ (λ (u o : ℕ). four (run_of low high).under (run_of low high).over u o) (under_is _ _ _ (upper_runs low high hl hh)) (over_is _ _ _ (upper_runs low high hl hh))

-- a number's bits
pub is_limit : (l : Float) → fits binary32 l ≡ true → is_nan l ≡ false → IsLimit (to_bits binary32 l)
unfolding top
is_limit l e n = record {
  word = omega (arith, to_bits-lt binary32 l f);
  number =
      ltb-false 0x7f800000 (to_bits binary32 l % 2 ^ 31)
      (sym (nan_bits_above binary32 (to_bits binary32 l)) ∙ nan_bits_is binary32 (to_bits binary32 l) ∙ ap is_nan (of_bits-to_bits binary32 l f) ∙ n);
}
  where
    f : T (fits binary32 l)
    f = subst T (sym e) tt

above_all : (v w : Value) → le_v v w ≡ (le_v v w && le_v w (infinity false))
unfolding le_v
above_all v (finite b) = sym (and-true (le_v v (finite b)))
above_all v (infinity false) = sym (and-true (le_v v (infinity false)))
above_all v (infinity true) = sym (and-true (le_v v (infinity true)))
above_all v not_a_number = no_order v ∙ sym (ap (λ (b : Bool). b && le_v not_a_number (infinity false)) (no_order v))

below_all : (v w : Value) → le_v v w ≡ (le_v (infinity true) v && le_v v w)
unfolding le_v
below_all (finite a) w = refl
below_all (infinity s) w = refl
below_all not_a_number w = refl

infinities : (value 0x7f800000 ≡ infinity false) × (value 0xff800000 ≡ infinity true)
unfolding value exponent fraction sign
infinities = (refl, refl)

pub through_span : (g : Gate) → through g ≡ in_span (low_of g) (high_of g)
unfolding through meets_gate worth
through_span (AtLeast l) =
    fun_ext (λ x. above_all (worth l) (value x) ∙ ap (λ (v : Value). le_v (worth l) (value x) && le_v (value x) v) (sym infinities.0))
through_span (AtMost h) =
    fun_ext (λ x. below_all (value x) (worth h) ∙ ap (λ (v : Value). le_v v (value x) && le_v (value x) (worth h)) (sym infinities.1))
through_span (Within s) = refl

pub infinity_limits : IsLimit 0x7f800000 × IsLimit 0xff800000
unfolding top
infinity_limits = (record { word = omega arith; number = omega arith }, record { word = omega arith; number = omega arith })

-- a gate whose limits are single-precision numbers
module _ (g : Gate) (single : Single g) (numbers : not_numbers g ≡ false) where
  pub limits : IsLimit (low_of g) × IsLimit (high_of g)
  unfolding Single not_numbers
  limits = go g single numbers
    where
      go : (g : Gate) → Single g → not_numbers g ≡ false → IsLimit (low_of g) × IsLimit (high_of g)
      go (AtLeast l) s n = (is_limit l s n, infinity_limits.0)
      go (AtMost h) s n = (infinity_limits.1, is_limit h s n)
      go (Within i) s n =
          let two = both_fail (is_nan i.low) (is_nan i.high) n in
          (is_limit i.low s.0 two.0, is_limit i.high s.1 two.1)

  pub gate_rules : four_of (through g) ≡ between_rules (low_of g) (high_of g)
  gate_rules = ap four_of (through_span g) ∙ span_rules (low_of g) (high_of g) limits.0 limits.1

  pub as_rules : (r : Four) → r ≡ between_rules (low_of g) (high_of g) → Ok r ≡ turned g
  unfolding turned
  as_rules r e = sym (ap (λ (b : Bool). cond b (Err NotANumber) (Ok (four_of (through g)))) numbers ∙ ap Ok (gate_rules ∙ sym e))

pub as_none : (g : Gate) → not_numbers g ≡ true → Err NotANumber ≡ turned g
unfolding turned
as_none g n = sym (ap (λ (b : Bool). cond b (Err NotANumber) (Ok (four_of (through g)))) n)
