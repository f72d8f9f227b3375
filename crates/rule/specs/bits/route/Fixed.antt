-- The bits that rules of form 7 fix: a mask, and the value that a word's AND with it has. A route: what they mean is `meets7`.
use Rattle.std.specs.Prelude.{◌≡◌, Bool, false, ◌&&◌, cond, List, [], ◌∷◌, ℕ, ◌-◌, ◌≤◌, eqb}
use Rattle.std.specs.Int.Bits.{bit_and, bit_or}
use Rattle.word.specs.Word.{top}
use Rattle.rule.specs.declared.Rule.{Rule}
use Rattle.rule.specs.declared.bits.Fixed.{Fixed}
use Rattle.rule.specs.declared.bits.Fixed.TheVariants.{Bits, Clash}

-- the word x has the bits
unfoldable pub has_bits : Fixed → ℕ → Bool
has_bits (Bits m v) x = eqb (bit_and x m) v
has_bits Clash x = false

-- a form 7 rule's own value lies in its mask, and it agrees with the bits on every bit that both fix
unfoldable pub agrees : (m v c1 c2 : ℕ) → Bool
agrees m v c1 c2 = eqb (bit_and c2 c1) c2 && eqb (bit_and v c1) (bit_and c2 m)

-- the bits, and those that a form 7 rule with these constants fixes; where the two do not agree no word has both
unfoldable pub both : Fixed → (c1 c2 : ℕ) → Fixed
both (Bits m v) c1 c2 = cond (agrees m v c1 c2) (Bits (bit_or m c1) (bit_or v c2)) Clash
both Clash c1 c2 = Clash

-- the bits, and those that the rule fixes: only a form 7 rule fixes any
unfoldable pub joined : Fixed → Rule → Fixed
joined f r = cond (eqb r.form 7) (both f r.c1 r.c2) f

-- the bits, and those that the rules fix
unfoldable pub fixed_from : Fixed → List Rule → Fixed
fixed_from f [] = f
fixed_from f (r ∷ rs) = fixed_from (joined f r) rs

-- the bits that the rules fix: none before the first rule
unfoldable pub fixed_bits : List Rule → Fixed
fixed_bits rs = fixed_from (Bits 0 0) rs

-- the bits on the wheel of words turned round: each bit of the mask has the other value there
unfoldable pub turned_bits : Fixed → Fixed
turned_bits (Bits m v) = Bits m (m - v)
turned_bits Clash = Clash

-- the value has no bit outside the mask
unfoldable pub Tidy : Fixed → Type 0
Tidy (Bits m v) = bit_and v m ≡ v
Tidy Clash = Unit {0}

-- the mask has no bit outside a word
unfoldable pub Within : ℕ → Fixed → Type 0
Within w (Bits m v) = m ≤ top w
Within w Clash = Unit {0}
