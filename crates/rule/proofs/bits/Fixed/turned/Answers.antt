-- `Fixed::turned` meets its contract: flipping the bits of a tidy value within its mask takes the value from the mask.
-- Assumes nothing.
use mathlib.Core.Path.{sym, ap, ◌∙◌}
use Rattle.rule.specs.declared.bits.Fixed.TheVariants.{Bits}
use Rattle.rule.specs.bits.route.Fixed.{turned_bits}
use Rattle.rule.proofs.bits.Next.{tidy_value}
use Rattle.rule.proofs.bits.Turn.{flipped}
use Rattle.rule.proofs.bits.Fixed.turned.Goals as goal

pub returns-in-Bits : goal.returns-in-Bits
unfolding turned_bits
returns-in-Bits c =
    ap (Bits c.in-Bits.mask) (flipped _ _ (tidy_value _ _ _ c.in-Bits.is c.requires)) ∙ sym (ap turned_bits c.in-Bits.is)

pub returns-in-Clash : goal.returns-in-Clash
unfolding turned_bits
returns-in-Clash c = sym (ap turned_bits c.in-Clash.is)
