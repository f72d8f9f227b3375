-- Reading: a route, and no meaning. That a line is read as a frame just where it is that frame is proved (proofs/ReadBack.antt).
use Rattle.std.specs.Prelude.{◌&&◌, cond, List, ℕ, ◌+◌, eqb, length, take}
use Rattle.std.proofs.Math.Seq.{slice}
use Rattle.word.specs.declared.Edition.{Edition}
use Rattle.word.specs.Edition.{terms}
use Rattle.page.specs.Page.{at_width}
use Rattle.digits.specs.hexadecimal.Hex.{all_digits, number}
use Rattle.frame.specs.declared.Frame.{Frame}
use Rattle.frame.specs.declared.Frame.TheVariants.{Add, Ask, Back, Forward, Mark, NoFrame, Open}
use Rattle.frame.specs.fields.Fields.{BYTE, DIGITS, WORD}
use Rattle.frame.specs.frame_numbers.route.Numbers.{C1, OPENING, adding, code_edition, rule_of}

-- no frame has more digits
abbrev pub LONGEST : ℕ
LONGEST = C1 + DIGITS + DIGITS

-- a code and nothing more
unfoldable pub bare : ℕ → Frame
bare code = cond (eqb code 0x03) Mark (cond (eqb code 0x04) Back (cond (eqb code 0x05) Ask (cond (eqb code 0x06) Forward NoFrame)))

-- the frames of an edition that have numbers after their code
unfoldable pub numbered : Edition → (code : ℕ) → List ℕ → Frame
numbered e code l =
    cond (eqb (length l) OPENING && eqb code (terms e).opens) (Open (at_width (number (slice BYTE OPENING l)) e))
    (cond (eqb (length l) (adding e) && eqb code (terms e).adds) (Add e (rule_of (WORD e) l))
    NoFrame)

-- a line of digits, of which the first write a code
unfoldable pub by_digits : (code : ℕ) → List ℕ → Frame
by_digits code l = cond (eqb (length l) BYTE) (bare code) (numbered (code_edition code) code l)

-- the frame that a line is: digits alone, and as many as its code asks for
unfoldable pub frame_of : List ℕ → Frame
frame_of l = cond (all_digits l) (by_digits (number (take BYTE l)) l) NoFrame
