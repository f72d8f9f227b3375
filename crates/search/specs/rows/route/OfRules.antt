-- Whose bands and bits they are. A route, as bands and bits are.
use Rattle.std.specs.Prelude.{◌≡◌, ℕ, List, map}
use Rattle.rule.specs.declared.Rule.{Rule}
use Rattle.rule.specs.Meaning.{AllLawful}
use Rattle.rule.specs.declared.band.Band.{Band}
use Rattle.rule.specs.band.route.Band.{band_of}
use Rattle.rule.specs.declared.bits.Fixed.{Fixed}
use Rattle.rule.specs.bits.route.Fixed.{fixed_bits}

-- the bands are those of the rules that are laid, and the bits are those that the rules in force fix
pub record OfRules (w : ℕ) (bands : List Band) (fixed : Fixed) (laid rs : List Rule) : Type 0 where
  pub own : bands ≡ map (band_of w) laid
  pub bits : fixed ≡ fixed_bits rs

-- both are those of the same lawful rules
abbrev pub OfLawful : ℕ → List Band → Fixed → List Rule → Type 0
OfLawful w bands fixed rs = AllLawful w rs × OfRules w bands fixed rs rs
