-- What the definition says of the table's lines, by computing. Assumes nothing.
use mathlib.Core.Path.{◌≡◌, refl}
use mathlib.Core.List.{map}
use Rattle.word.specs.Edition.{terms}
use Rattle.digits.specs.hexadecimal.Hex.{all_digits, is_digit, number, number_from, value}
use Rattle.digits.specs.hexadecimal.Text.{bytes_of}
use Rattle.digits.specs.numeral.Numeral.{after_zero, below_zero, digit, next, past_digit, pointed, value_of}
use Rattle.line.specs.grammar.Grammar.{kind_of}
use Rattle.line.specs.grammar.Kinds.{packed}
use Rattle.line.specs.token.Token.{begun, class_of, is_blank, is_sign, is_word, kind, kind_of_number, more, opened, text_kind}
use Rattle.line.specs.piece.Piece.{end_at, ends, grown, piece_of, word_at, word_from}
use Rattle.citing.specs.linked.Linked.{bare, bare_end, is_link, link_in, link_of}
use Rattle.citing.specs.Citation.{citation, cited, is_reason, lab_says, or_lab, said, wrong_at}
use Rattle.citing.specs.Examples.{Example, examples}

pub worked : map (λ (x : Example). citation x.line) examples ≡ map (λ (x : Example). x.says) examples
unfolding
    examples citation or_lab lab_says said cited is_reason wrong_at word_at word_from piece_of end_at grown ends begun more opened packed next after_zero below_zero pointed digit past_digit value_of class_of is_word is_sign is_blank kind kind_of_number text_kind kind_of link_in is_link link_of bare bare_end all_digits is_digit number number_from value bytes_of terms
worked = refl
