-- Cuts of the exchange itself, by computing: before accepted openings the parts say what the whole says, and elsewhere they need not.
-- The lines that go back, `04`, tell an open sheet, 8, from a blank one, 1. Assumes nothing.
use mathlib.Core.Path.{◌≡◌, refl}
use mathlib.Core.List.{List, [], ◌∷◌, flatten, map}
use Prim.Native.Nat.{ℕ}
use Prim.Native.String.{String}
use Rattle.word.specs.Edition.{terms}
use Rattle.page.specs.Calls.{after, first_that_applies, grounds, is_blank, marks_of, refusal, written}
use Rattle.page.specs.Page.{entries_of, marks_on}
use Rattle.digits.specs.hexadecimal.Hex.{all_digits, glyph, hex, is_digit, number, number_from, value}
use Rattle.frame.specs.fields.Answers.{answer_bytes, line_bytes, number_line}
use Rattle.frame.specs.Calls.{call_of, line_call}
use Rattle.frame.specs.fields.Fields.{digits_in}
use Rattle.frame.specs.frame_numbers.route.Numbers.{code_edition}
use Rattle.frame.specs.route.Reading.{bare, by_digits, frame_of, numbered}
use Rattle.frame.specs.Pages.{answer_to, page_after}
use Rattle.frame.specs.exchange.Exchange.{answers_to, exchange, in_front, lines}
use Rattle.digits.specs.hexadecimal.Text.{bytes_of}

-- what one desk says to all parts, and what desks say that have one each
abbrev by_one : List String → List ℕ
by_one ps = exchange (flatten (map bytes_of ps))

abbrev by_many : List String → List ℕ
by_many ps = flatten (map (λ (p : String). exchange (bytes_of p)) ps)

-- one desk says one thing, and many another
abbrev Says : List String → (one many : String) → Type 0
Says ps one many = (by_one ps ≡ bytes_of one) × (by_many ps ≡ bytes_of many)

-- accepted openings, the last line without its byte 10; refused ones, by the width 33, by none, by the width 65 and by a capital digit,
-- which is no digit; and an opening's digits at the end of a line
pub cuts : Says ("04\n0103\n04\n" ∷ "1104\n" ∷ "0120\n04" ∷ []) "ff01\n00\nff08\n00\n00\nff08\n" "ff01\n00\nff08\n00\n00\nff08\n"
    × Says ("0103\n" ∷ "0121\n04\n" ∷ []) "00\nff02\nff08\n" "00\nff02\nff01\n"
    × Says ("1103\n" ∷ "0100\n04\n" ∷ []) "00\nff02\nff08\n" "00\nff02\nff01\n"
    × Says ("0103\n" ∷ "1141\n04\n" ∷ []) "00\nff02\nff08\n" "00\nff02\nff01\n"
    × Says ("0103\n" ∷ "010F\n04\n" ∷ []) "00\nff0a\nff08\n" "00\nff0a\nff01\n"
    × Says ("02" ∷ "0103\n04\n" ∷ []) "ff0a\nff01\n" "ff0a\n00\nff08\n"
unfolding
    flatten exchange answers_to answer_to page_after line_call call_of lines in_front bytes_of frame_of by_digits bare code_edition numbered terms all_digits is_digit number number_from value answer_bytes line_bytes digits_in number_line hex glyph after refusal first_that_applies grounds is_blank marks_of written entries_of marks_on
cuts = ((refl, refl), (refl, refl), (refl, refl), (refl, refl), (refl, refl), (refl, refl))
