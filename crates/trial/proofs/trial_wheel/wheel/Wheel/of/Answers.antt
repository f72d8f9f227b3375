-- `wheel::Wheel::of` is safe: half is above 0 and at most 2^63, so that one less than two halves is a number of 64 bits. Assumes nothing.
use native.Mathlib.Omega.{arith}
use Rattle.word.proofs.Cut.{half_shifted}
use Rattle.word.proofs.Widths.{half_fits, half_pos}
use Rattle.trial.proofs.trial_wheel.wheel.Wheel.of.Goals as goal

pub overflow_sub-result : goal.overflow_sub-result
overflow_sub-result c =
    omega (arith, half_shifted c.args.bits c.requires.low c.requires.high, half_pos c.args.bits)

pub overflow_add-result : goal.overflow_add-result
overflow_add-result c =
    omega (arith, half_shifted c.args.bits c.requires.low c.requires.high, half_fits c.args.bits c.requires.high)
