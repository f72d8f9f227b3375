-- `decode` meets its contract: the tests pick the row. Assumes nothing.
use mathlib.Core.Path.{sym, ap, ◌∙◌}
use Rattle.frame.specs.frame_numbers.route.Numbers.{code_edition}
use Rattle.frame.specs.route.Reading.{numbered}
use Rattle.frame.proofs.Rows.{no_digits, numbers_row, too_short}
use Rattle.frame.proofs.reading.decode.Goals as goal

pub returns-then-n-lt-BYTE : goal.returns-then-n-lt-BYTE
returns-then-n-lt-BYTE c = too_short _ c.if-n-lt-BYTE.true

pub returns-then-n-eq-BYTE : goal.returns-then-n-eq-BYTE
returns-then-n-eq-BYTE c = c.code_alone.ensures

pub returns-then-not-all_digits : goal.returns-then-not-all_digits
returns-then-not-all_digits c = no_digits _ (sym c.all_digits.ensures ∙ c.if-not-all_digits.true)

pub returns : goal.returns
returns c =
    c.numbered.ensures
    ∙ (λ i. numbered ((c.edition_of.ensures ∙ ap code_edition c.number-code.ensures) i) (c.number-code.ensures i) c.args.line.now)
    ∙ numbers_row _ (sym c.all_digits.ensures ∙ c.if-not-all_digits.false) c.if-n-eq-BYTE.false
