-- The lemmas that the goals of `put` want, whatever its tests are named. Assumes nothing.
use mathlib.Core.Path.{◌≡◌, sym, ap, ◌∙◌}
use mathlib.Core.List.{List}
use Prim.Native.Nat.{ℕ, suc, ◌+◌, ◌/◌, ◌%◌}
use lib.ListN.{length-set, set}
use lib.Seq.{sets}
use Rattle.digits.specs.hexadecimal.Hex.{glyph, hex}
use Rattle.digits.proofs.hexadecimal.Digits.{last_first, length-hex}

-- the last digit may be written first
pub last_digit : (l : List ℕ) (at k n x : ℕ) → n ≡ suc k → sets (set l (at + k) (glyph (x % 16))) at (hex k (x / 16)) ≡ sets l at (hex n x)
unfolding hex
last_digit l at k n x e =
    ap (λ (j : ℕ). sets (set l (at + j) (glyph (x % 16))) at (hex k (x / 16))) (sym (length-hex k (x / 16)))
    ∙ last_first l (hex k (x / 16)) at (glyph (x % 16))
    ∙ ap (λ (j : ℕ). sets l at (hex j x)) (sym e)

pub ruleset wanted = (length-set, last_first, length-hex, last_digit)
