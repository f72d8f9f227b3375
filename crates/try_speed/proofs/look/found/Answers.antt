-- `found` is safe: the value lies in the mask. Assumes nothing.
use Rattle.std.proofs.Common.{arith}
use Rattle.word.specs.Word.{top}
use Rattle.rule.specs.bits.route.Fixed.{Tidy}
use Rattle.rule.proofs.bits.Bit.{and_twice}
use Rattle.try_speed.proofs.look.found.Goals as goal

pub next-requires : goal.next-requires
unfolding Tidy top
next-requires c = record { width = record { low = omega arith; high = omega arith }; p_bound = omega arith; tidy = and_twice c.args.value c.args.mask }
