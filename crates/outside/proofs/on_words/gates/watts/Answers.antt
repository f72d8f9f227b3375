-- `watts` meets its contract: without its sign bit, the pattern of a number is not above that of an infinity. Assumes nothing.
use mathlib.Core.Path.{◌≡◌, refl, sym, subst, ◌∙◌}
use mathlib.Core.Bool.{Bool, true, false≢true, not}
use Prim.Native.Nat.{ℕ, ◌%◌, ◌^◌, ◌≤◌}
use borrow.Author.Tests.{le-ltb, lt-ltb}
use lib.Dec.{T}
use lib.Ieee.{Float, nan, inf, fin, binary32, div, is_nan, nan_bits, of_bits, of_fields, round}
use lib.Ieee.Bits.{nan_bits_above, nan_bits_is}
use Rattle.outside.proofs.on_words.gates.watts.Goals as goal

number : (p : ℕ) → p % 2 ^ 31 ≤ 0x7f800000 → T (not (nan_bits binary32 p))
number p h = subst (λ (b : Bool). T (not b)) (sym (nan_bits_above binary32 p ∙ le-ltb 0x7f800000 (p % 2 ^ 31) h)) tt

is_nan_lem : (x : Float) → is_nan x ≡ true → x ≡ nan
unfolding is_nan
is_nan_lem nan e = refl
is_nan_lem (inf s) e = absurd (false≢true e)
is_nan_lem (fin s m d) e = absurd (false≢true e)

pub returns-then-pattern-gt2139095040 : goal.returns-then-pattern-gt2139095040
unfolding div of_bits of_fields round
returns-then-pattern-gt2139095040 c = sym (is_nan_lem _ (sym (nan_bits_is binary32 c.args.pattern) ∙ nan_bits_above binary32 c.args.pattern ∙ lt-ltb _ _ c.if-pattern-gt2139095040.true))

pub float_from_bits-result : goal.float_from_bits-result
float_from_bits-result c = number _ c.if-pattern-gt2139095040.false
