-- Slips that the paper has met, ruled out by name. Assumes nothing.
use mathlib.Core.Path.{◌≡◌, refl, ◌∙◌}
use mathlib.Core.Bool.{true, false}
use mathlib.Core.List.{[], ◌∷◌}
use Prim.Native.Nat.{ℕ}
use native.Mathlib.Nat.{le_refl}
use borrow.Author.Tests.{le-leb}
use Rattle.word.specs.Word.{top, plus, minus, half, signed}
use Rattle.word.proofs.Sums.{plus_word}
use Rattle.rule.specs.Meaning.{fits, meets, rows, rule, written}
use Rattle.rule.proofs.Rows.{as_written, at_row}

-- "Reducing -0 to the word 0 in Table 1": form 1 with 0, 0 and form 3 with 0, top hold for all words, at every width
pub form_1_zeros : (w x : ℕ) → meets w (rule 1 0 0 0) x ≡ true
unfolding rows
form_1_zeros w x =
    as_written w (rule 1 0 0 0) x refl ∙ at_row w (rule 1 0 0 0) x 1 refl ∙ le-leb (plus w 0 x) (plus w 0 x) (le_refl (plus w 0 x))

pub form_3_top : (w x : ℕ) → meets w (rule 3 0 0 (top w)) x ≡ true
unfolding rows
form_3_top w x =
    as_written w (rule 3 0 0 (top w)) x refl ∙ at_row w (rule 3 0 0 (top w)) x 3 refl ∙ le-leb (plus w 0 x) (top w) (plus_word w 0 x)

-- "Testing only interval ends against the bits": form 3, 5, 3 is met from 11 to 14, and with form 7, 3, 0 neither end fits,
-- but 12 does
pub between_the_ends : (fits 4 (rule 3 0 5 3 ∷ rule 7 0 3 0 ∷ []) 11 ≡ false)
    × (fits 4 (rule 3 0 5 3 ∷ rule 7 0 3 0 ∷ []) 12 ≡ true)
    × (fits 4 (rule 3 0 5 3 ∷ rule 7 0 3 0 ∷ []) 14 ≡ false)
unfolding fits meets written rows plus minus top half signed
between_the_ends = (refl, refl, refl)
