-- What the definition says of the table's lines, by computing. Assumes nothing.
use mathlib.Core.Path.{◌≡◌, refl}
use mathlib.Core.List.{map}
use Rattle.word.specs.Word.{half, minus}
use Rattle.digits.specs.hexadecimal.Text.{bytes_of}
use Rattle.digits.specs.numeral.Numeral.{after_zero, below_zero, digit, next, past_digit, pointed, value_of}
use Rattle.line.specs.grammar.Grammar.{agree, expected, follow, goes_on, is_watts, is_whole, kind_of, row_at}
use Rattle.line.specs.grammar.Kinds.{packed}
use Rattle.line.specs.token.Token.{begun, class_of, is_blank, is_sign, is_word, kind, kind_of_number, more, opened, text_kind}
use Rattle.line.specs.scan.Scan.{failed, instead_of, is_number, named, negated, numbered, placed, started, takes_number, with_token}
use Rattle.line.specs.scanning.Scanning.{accepted, closed, followed, scanned, step, steps}
use Rattle.line.specs.line_end.End.{end_of, past_last, uncommented}
use Rattle.line.specs.row_rules.Rules.{rule_at, rule_of, signed_word}
use Rattle.line.specs.Line.{by_row, finished, nothing_read, other, read, rule_statement, rule_with}
use Rattle.line.specs.Examples.{Example, examples}

pub worked : map (λ (x : Example). read x.width x.line) examples ≡ map (λ (x : Example). x.says) examples
unfolding
    examples read finished nothing_read by_row rule_statement rule_with other rule_of rule_at signed_word half minus scanned end_of past_last uncommented steps step closed accepted failed followed instead_of takes_number is_number named negated numbered placed started with_token expected follow agree goes_on is_watts is_whole row_at kind_of begun more opened packed next after_zero below_zero pointed digit past_digit value_of class_of is_word is_sign is_blank kind kind_of_number text_kind bytes_of
worked = refl
