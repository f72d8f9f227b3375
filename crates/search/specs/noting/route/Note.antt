-- A route: what is noted in a row, which is what a search would find. Whether what is kept of the rules up to this one is known and, if so,
-- what is kept and the bits that they fix.
use Rattle.std.specs.Prelude.{true, cond, List, [], ◌∷◌, ℕ, zero, suc, eqb, get_or, set}
use Rattle.word.specs.Word.{top}
use Rattle.rule.specs.declared.bits.Fixed.{Fixed}
use Rattle.rule.specs.declared.bits.Fixed.TheVariants.{Bits, Clash}
use Rattle.search.specs.declared.verdict.Kept.{Kept}
use Rattle.search.specs.verdict.Kept.{keeps}
use Rattle.search.specs.declared.noting.Note.{Note}

-- bits by three numbers: 1 where rules clash, the mask, and the value
unfoldable pub fixed_in : (clash mask value : ℕ) → Fixed
fixed_in clash mask value = cond (eqb clash 1) Clash (Bits mask value)

-- the last seven numbers of a row: 1 where there is a note, the verdict, the smallest and the largest word, and the bits
unfoldable pub note_in : List ℕ → Note
note_in row =
    record {
      known = eqb (get_or row 7 0) 1;
      kept = keeps (get_or row 8 0) (get_or row 9 0) (get_or row 10 0);
      fixed = fixed_in (get_or row 11 0) (get_or row 12 0) (get_or row 13 0);
    }

-- the note on the first n rules: what is kept of no rules is known, and else the n-th row has it
unfoldable pub note_at : (w : ℕ) → List (List ℕ) → ℕ → Note
note_at w rows zero = record { known = true; kept = keeps 2 0 (top w); fixed = Bits 0 0 }
note_at w rows (suc i) = note_in (get_or rows i [])

-- bits as three numbers
unfoldable pub fixed_out : Fixed → List ℕ
fixed_out (Bits mask value) = 0 ∷ mask ∷ value ∷ []
fixed_out Clash = 1 ∷ 0 ∷ 0 ∷ []

-- a row with another note
unfoldable pub with_note : Kept → Fixed → List ℕ → List ℕ
with_note k f row =
    get_or row 0 0
    ∷ get_or row 1 0
    ∷ get_or row 2 0
    ∷ get_or row 3 0
    ∷ get_or row 4 0
    ∷ get_or row 5 0
    ∷ get_or row 6 0
    ∷ 1
    ∷ k.verdict
    ∷ k.smallest
    ∷ k.largest
    ∷ fixed_out f

-- the rows with a note on the first n rules, in the last one's row
unfoldable pub noting : Kept → Fixed → List (List ℕ) → ℕ → List (List ℕ)
noting k f rows zero = rows
noting k f rows (suc i) = set rows i (with_note k f (get_or rows i []))
