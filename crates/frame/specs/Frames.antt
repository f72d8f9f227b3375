-- The frames (01, "Lines of hexadecimal").
use Rattle.std.specs.Prelude.{◌≡◌, List, [], ◌∷◌, ℕ}
use Rattle.word.specs.Edition.{terms}
use Rattle.frame.specs.declared.Frame.{Frame}
use Rattle.frame.specs.declared.Frame.TheVariants.{Add, Ask, Back, Forward, Mark, NoFrame, Open}
use Rattle.frame.specs.fields.Fields.{InDigits, Line, byte, digits_in, word}

-- "`01` width(2): open. `02` form(2) sense(2) c1(8) c2(8): add. `03` mark. `04` back. `05` ask."; "frame `06`: it brings back the
-- stretch most recently taken back"; and "Frame `11` opens a sheet of width 1 to 64; its adds are frame `12`, with constants of 16 digits"
unfoldable pub fields_of : Frame → Line
fields_of (Open g) = byte (terms g.edition).opens ∷ byte g.width ∷ []
fields_of (Add e r) = byte (terms e).adds ∷ byte r.form ∷ byte r.sense ∷ word e r.c1 ∷ word e r.c2 ∷ []
fields_of Mark = byte 0x03 ∷ []
fields_of Back = byte 0x04 ∷ []
fields_of Ask = byte 0x05 ∷ []
fields_of Forward = byte 0x06 ∷ []
fields_of NoFrame = []

-- a line is a frame: just its digits, which its numbers fit
pub record IsFrame (l : List ℕ) (f : Frame) : Type 0 where
  pub some : f ≡ NoFrame → ⊥
  pub written : l ≡ digits_in (fields_of f)
  pub fits : InDigits (fields_of f)
