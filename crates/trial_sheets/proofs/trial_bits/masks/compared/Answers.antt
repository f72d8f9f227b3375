-- `compared` is safe: what may not be sought for is left out. Assumes nothing.
use Rattle.std.proofs.Common.{arith}
use Rattle.rule.specs.bits.route.Fixed.{Tidy}
use Rattle.trial_sheets.proofs.trial_bits.masks.compared.Goals as goal

pub next-requires : goal.next-requires
unfolding Tidy
next-requires c = record { width = c.requires; p_bound = omega arith; tidy = omega arith }
