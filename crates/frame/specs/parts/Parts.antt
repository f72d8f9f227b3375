-- An input cut before accepted openings, so that each part can go to a desk of its own.
use Rattle.std.specs.Prelude.{◌≡◌, List, [], ◌∷◌, ◌++◌, ℕ, ◌≤◌}
use Rattle.word.specs.declared.Edition.{Edition}
use Rattle.word.specs.Edition.{terms}
use Rattle.page.specs.Calls.{open_at, refusal}
use Rattle.page.specs.declared.Opening.{Opening}
use Rattle.page.specs.Page.{no_page}
use Rattle.digits.specs.hexadecimal.Hex.{hex}
use Rattle.frame.specs.fields.Answers.{NEWLINE}
use Rattle.frame.specs.Calls.{line_call, makes}
use Rattle.frame.specs.fields.Fields.{BYTE}
use Rattle.frame.specs.input_line.Lines.{line_of}

-- a line makes an opening, and it is not refused: 2, the one number that an opening may get, is the same on every sheet
pub record AcceptedOpening (l : List ℕ) : Type 0 where
  pub opening : Opening
  pub opens : line_call l ≡ makes (open_at opening)
  pub accepted : refusal no_page (open_at opening) ≡ 0

-- no line is left open at the end of these bytes: there are none, or the last is byte 10
pub data Ended : List ℕ → Type 0 where
  nothing : Ended []
  ended : (bs : List ℕ) → Ended (bs ++ NEWLINE ∷ [])

-- parts of an input, one after the other: each but the last is ended, and each but the first begins with an accepted opening
unfoldable pub CutAtOpenings : List (List ℕ) → Type 0
CutAtOpenings [] = Unit
CutAtOpenings (a ∷ []) = Unit
CutAtOpenings (a ∷ (b ∷ ps)) = Ended a × AcceptedOpening (line_of b) × CutAtOpenings (b ∷ ps)

-- "`01` width(2): open", "a width w from 1 to 32"; "Frame `11` opens a sheet of width 1 to 64": four digits and nothing more
pub record OpeningDigits (l : List ℕ) : Type 0 where
  pub edition : Edition
  pub width : ℕ
  pub least : 1 ≤ width
  pub most : width ≤ (terms edition).widest
  pub digits : l ≡ hex BYTE (terms edition).opens ++ hex BYTE width
