-- `watts` is safe: without its sign bit the pattern is not above that of an infinity. Assumes nothing.
use Rattle.std.proofs.Common.{ℕ, ◌%◌, ◌^◌, ◌≤◌, Bool, not, T, sym, ◌∙◌, subst, le-ltb}
use lib.Ieee.{binary32, nan_bits}
use lib.Ieee.Bits.{nan_bits_above}
use Rattle.trial.proofs.trial_gates.made.watts.Goals as goal

number : (p : ℕ) → p % 2 ^ 31 ≤ 0x7f800000 → T (not (nan_bits binary32 p))
number p h = subst (λ (b : Bool). T (not b)) (sym (nan_bits_above binary32 p ∙ le-ltb 0x7f800000 (p % 2 ^ 31) h)) tt

pub float_from_bits-result : goal.float_from_bits-result
float_from_bits-result c = number _ c.if-pattern-gt2139095040.false
