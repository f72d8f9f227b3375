-- `is_digit` meets its contract: it is the two tests. Assumes nothing.
use Rattle.digits.specs.hexadecimal.Hex.{is_digit}
use Rattle.digits.proofs.hexadecimal.is_digit.Goals as goal

pub returns : goal.returns
unfolding is_digit
returns c = rw (c.is_numeral.ensures, c.is_letter.ensures)
