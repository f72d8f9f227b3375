-- A number as answers have it.
use Rattle.std.specs.Prelude.{List, ◌++◌, ℕ}
use Rattle.digits.specs.hexadecimal.Text.{bytes_of}
use Rattle.digits.specs.numeral.Digits.{digits_in}
use Rattle.digits.specs.phrase.Phrase.{decimal}

-- a number in decimal, and in hexadecimal in parentheses: `11 (0xb)`
unfoldable pub number_text : ℕ → List ℕ
number_text x = decimal x ++ (bytes_of " (0x" ++ (digits_in 16 x ++ bytes_of ")"))

-- the most bytes of a number in both ways
abbrev pub NUMBER : ℕ
NUMBER = 41
