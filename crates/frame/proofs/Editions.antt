-- "An old answer read as a new one shows the same word": a word of the old edition has eight zeros more in the new one. Assumes nothing.
use mathlib.Core.Path.{◌≡◌}
use mathlib.Core.List.{◌++◌}
use Prim.Native.Nat.{ℕ, ◌<◌, ◌^◌}
use lib.ListN.{replicate}
use Rattle.word.specs.declared.Edition.TheVariants.{New, Old}
use Rattle.word.specs.Edition.{terms}
use Rattle.digits.specs.hexadecimal.Hex.{hex}
use Rattle.digits.proofs.hexadecimal.Padded.{ZERO, hex_padded}
use Rattle.frame.specs.fields.Fields.{WORD}

-- "16 digits of an old word are eight zeros and its eight digits"
pub old_word : (x : ℕ) → x < 2 ^ (terms Old).widest → hex (WORD New) x ≡ replicate 8 ZERO ++ hex (WORD Old) x
unfolding terms
old_word x h = hex_padded 8 8 x h
