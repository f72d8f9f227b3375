-- Texts of docs/VET.md and names, by computing. Assumes nothing.
use mathlib.Core.Path.{◌≡◌, refl}
use Prim.Native.String.{String}
use Prim.Native.Nat.{ℕ}
use Rattle.word.specs.Word.{half, minus}
use Rattle.rule.specs.Meaning.{rule}
use Rattle.digits.specs.hexadecimal.Hex.{glyph}
use Rattle.digits.specs.hexadecimal.Text.{bytes_of}
use Rattle.digits.specs.numeral.Digits.{digits, digits_in}
use Rattle.digits.specs.numeral.Numeral.{bad, below_zero, digit, next, pointed, value_of}
use Rattle.line.specs.grammar.Grammar.{kind_of}
use Rattle.line.specs.grammar.Kinds.{packed}
use Rattle.line.specs.token.Token.{begun, class_of, is_blank, is_sign, is_word, kind, more, opened, text_kind}
use Rattle.line.specs.scan.Scan.{started, with_token}
use Rattle.line.specs.scanning.Scanning.{closed, step, steps}
use Rattle.digits.specs.phrase.Phrase.{signedly}
use Rattle.wording.specs.form_rows.Forms.{form_text}
use Rattle.digits.specs.figure.Figure.{number_text}
use Rattle.wording.specs.signs.Signs.{at_least, at_most, before}
use Rattle.wording.specs.Wording.{rule_text}
use Rattle.wording.specs.echo.Echo.{IsName}

abbrev Text : (w form sense c1 c2 : ℕ) → String → Type 0
Text w form sense c1 c2 text = rule_text w (rule form sense c1 c2) ≡ bytes_of text

pub texts : Text 4 1 0 1 2 "x + 1 <= x + 2"
    × Text 4 2 0 9 0 "x >= 9"
    × Text 4 2 1 9 0 "x < 9"
    × Text 4 2 1 3 5 "not 3 <= x + 5"
    × Text 4 3 0 0 9 "x <= 9"
    × Text 4 3 1 0 9 "x > 9"
    × Text 4 3 0 5 3 "x + 5 <= 3"
    × Text 4 4 0 13 0 "signed x <= -3"
    × Text 4 5 1 3 0 "not 3 <= signed x"
    × Text 64 6 1 10 0 "not x = 10"
    × Text 16 7 0 12 4 "x & 12 = 4"
    × Text 16 8 1 14 3 "not settled since 14 for 3"
    × (number_text 11 ≡ bytes_of "11 (0xb)")
unfolding rule_text form_text before at_least at_most number_text signedly half minus bytes_of digits digits_in glyph
texts = (refl, refl, refl, refl, refl, refl, refl, refl, refl, refl, refl, refl, refl)

pub names : IsName (bytes_of "viewing") × IsName (bytes_of "-a_1.b")
unfolding bytes_of steps step closed with_token started begun more opened packed next below_zero pointed digit value_of class_of is_word is_sign is_blank kind text_kind kind_of
names =
    (record { text = 0x76696577696e67; numeral = bad; word = refl; name = refl }, record { text = 0x2d615f312e62; numeral = bad; word = refl; name = refl })
