-- What a line is made of: numbers in so many digits, one after another (01, "Lines of hexadecimal").
use Rattle.std.specs.Prelude.{List, [], ◌∷◌, ◌++◌, ℕ, ◌<◌, ◌^◌}
use Rattle.word.specs.declared.Edition.{Edition}
use Rattle.word.specs.Edition.{terms}
use Rattle.digits.specs.hexadecimal.Hex.{hex}
use Rattle.frame.specs.declared.fields.Field.{Field}

-- the digits of a code, and of every number that is no word: "width(2)", "form(2)", "number(2)"
abbrev pub BYTE : ℕ
BYTE = 2

-- the digits of a word: "c1(8)", "smallest(8)", "from(8)", and in the new edition 16; and the most that it has in any edition
abbrev pub WORD : Edition → ℕ
WORD e = (terms e).digits

abbrev pub DIGITS : ℕ
DIGITS = 16

abbrev pub field : (digits number : ℕ) → Field
field d x = record { digits = d; number = x }

abbrev pub byte : ℕ → Field
byte x = field BYTE x

abbrev pub word : Edition → ℕ → Field
word e x = field (WORD e) x

-- the numbers of a line
abbrev pub Line : Type 0
Line = List Field

-- each number in its digits, one after another
unfoldable pub digits_in : Line → List ℕ
digits_in [] = []
digits_in (f ∷ fs) = hex f.digits f.number ++ digits_in fs

-- each number fits its digits
unfoldable pub InDigits : Line → Type 0
InDigits [] = Unit
InDigits (f ∷ fs) = (f.number < 16 ^ f.digits) × InDigits fs

-- each number of each line fits its digits
unfoldable pub AllInDigits : List Line → Type 0
AllInDigits [] = Unit
AllInDigits (l ∷ ls) = InDigits l × AllInDigits ls
