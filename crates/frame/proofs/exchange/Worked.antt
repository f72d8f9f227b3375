-- 01's whole exchange, of the definition itself, by computing; and the rules on where lines end. Assumes nothing.
use mathlib.Core.Path.{◌≡◌, refl}
use mathlib.Core.List.{[], ◌∷◌, map}
use Prim.Native.String.{String}
use Rattle.word.specs.Edition.{same, terms}
use Rattle.word.specs.Search.{climb, first, last, sink}
use Rattle.word.specs.Word.{half, minus, plus, signed, top}
use Rattle.rule.specs.Meaning.{fits, meets, meets7, reach, rows, start, written}
use Rattle.rule.specs.accept.Accept.{bad_constant, bad_form, bad_sense, rule_grounds, stray_bit}
use Rattle.search.specs.verdict.Kept.{kept, verdict_of}
use Rattle.chain.specs.Findings.{findings, chain_for}
use Rattle.chain.specs.Links.{before, blocks, further, furthest, furthest_of, gap, go_on, link_at, link_by, links, links_from}
use Rattle.page.specs.Calls.{after, changed, first_that_applies, grounds, is_blank, marks_of, refusal, rules_of, written as writes}
use Rattle.page.specs.Page.{edition_of, entries_of, laid_aside, marks_on, rules_on, struck, width_of}
use Rattle.digits.specs.hexadecimal.Hex.{all_digits, glyph, hex, is_digit, number, number_from, value}
use Rattle.frame.specs.fields.Answers.{answer_bytes, chain_lines, line_bytes, number_line}
use Rattle.frame.specs.Calls.{call_of, line_call}
use Rattle.frame.specs.fields.Fields.{digits_in}
use Rattle.frame.specs.frame_numbers.route.Numbers.{code_edition, rule_of}
use Rattle.frame.specs.route.Reading.{bare, by_digits, frame_of, numbered}
use Rattle.frame.specs.Pages.{answer_to, page_after}
use Rattle.frame.specs.exchange.Exchange.{answers_to, exchange, in_front, lines}
use Rattle.frame.specs.exchange.Paper.{paper_input, paper_input_new, paper_output, paper_output_new}
use Rattle.digits.specs.hexadecimal.Text.{bytes_of}

both_papers : (exchange (bytes_of paper_input) ≡ bytes_of paper_output) × (exchange (bytes_of paper_input_new) ≡ bytes_of paper_output_new)
unfolding
    exchange answers_to answer_to page_after line_call call_of lines in_front bytes_of frame_of by_digits bare code_edition numbered terms rule_of all_digits is_digit number number_from value answer_bytes line_bytes digits_in number_line chain_lines hex glyph after refusal first_that_applies grounds rule_grounds is_blank edition_of same bad_form bad_sense bad_constant stray_bit rules_of marks_of writes changed laid_aside entries_of width_of rules_on marks_on struck findings chain_for kept verdict_of links links_from go_on link_at link_by gap before furthest furthest_of further blocks reach start meets7 fits meets written rows first last climb sink top half plus minus signed
both_papers = (refl, refl)

pub paper : exchange (bytes_of paper_input) ≡ bytes_of paper_output
paper = both_papers.0

pub paper_new : exchange (bytes_of paper_input_new) ≡ bytes_of paper_output_new
paper_new = both_papers.1

-- "each line ended by byte 10; the last may lack it, and a final byte 10 opens no further line"
pub endings : map (λ (t : String). lines (bytes_of t)) ("" ∷ "\n" ∷ "a" ∷ "a\n" ∷ "a\n\n" ∷ [])
    ≡ [] ∷ ([] ∷ []) ∷ ((97 ∷ []) ∷ []) ∷ ((97 ∷ []) ∷ []) ∷ ((97 ∷ []) ∷ [] ∷ []) ∷ []
unfolding lines in_front bytes_of
endings = refl

-- "Empty input gives empty output; an empty line is answered with 10."
pub empties : map (λ (t : String). exchange (bytes_of t)) ("" ∷ "\n" ∷ "\n\n" ∷ []) ≡ map bytes_of ("" ∷ "ff0a\n" ∷ "ff0a\nff0a\n" ∷ [])
unfolding
    exchange answers_to answer_to page_after line_call call_of lines in_front bytes_of frame_of by_digits bare code_edition numbered terms all_digits number number_from answer_bytes line_bytes digits_in number_line hex glyph
empties = refl

-- an add of either edition on the blank sheet, `02` on a new sheet and `12` on an old one, each with a form that there is not; and the
-- widths: 33 is refused by `01`, 65 by `11`, and 64 is not
pub editions : exchange (bytes_of "12090000000000000000000000000000000000\n1104\n0209000000000000000000\n0104\n12090000000000000000000000000000000000\n0209000000000000000000\n0121\n1141\n1140\n")
    ≡ bytes_of "ff01\n00\nff0b\n00\nff0b\nff03\nff02\nff02\n00\n"
unfolding
    exchange answers_to answer_to page_after line_call call_of lines in_front bytes_of frame_of by_digits bare code_edition numbered terms rule_of all_digits is_digit number number_from value answer_bytes line_bytes digits_in number_line hex glyph after refusal first_that_applies grounds rule_grounds is_blank edition_of same bad_form bad_sense bad_constant stray_bit rules_of writes changed entries_of width_of rules_on
editions = refl
