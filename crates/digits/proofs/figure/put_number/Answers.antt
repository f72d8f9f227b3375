-- `put_number` meets its contract: its four parts stand one after the other. Assumes nothing.
use native.Mathlib.Omega.{arith}
use Rattle.digits.specs.hexadecimal.Text.{bytes_of}
use Rattle.digits.specs.figure.Figure.{number_text}
use Rattle.digits.proofs.phrase.Putting.{put_length, put_then}
use Rattle.digits.proofs.phrase.Sizes.{few_decimal, few_hexadecimal}
use Rattle.digits.proofs.figure.Sizes.{few_number}
use Rattle.digits.proofs.figure.put_number.Goals as goal

pub put_digits-decimal-requires : goal.put_digits-decimal-requires
put_digits-decimal-requires c = record { le_base = (omega arith, omega arith); x_in_bounds = omega (arith, few_decimal c.args.x (omega arith)) }

pub put_text-opened-requires : goal.put_text-opened-requires
put_text-opened-requires c =
    omega (arith, few_decimal c.args.x (omega arith), put_length c.put_digits-decimal.ensures, c.put_digits-decimal.ensures.1)

pub put_digits-hexadecimal-requires : goal.put_digits-hexadecimal-requires
put_digits-hexadecimal-requires c = record { le_base = (omega arith, omega arith); x_in_bounds = omega (arith, few_decimal c.args.x (omega arith), few_hexadecimal c.args.x (omega arith), put_length c.put_digits-decimal.ensures, c.put_digits-decimal.ensures.1, put_length c.put_text-opened.ensures, c.put_text-opened.ensures.1) }

pub put_text-requires : goal.put_text-requires
put_text-requires c =
    omega (arith, few_decimal c.args.x (omega arith), few_hexadecimal c.args.x (omega arith), put_length c.put_digits-decimal.ensures, c.put_digits-decimal.ensures.1, put_length c.put_text-opened.ensures, c.put_text-opened.ensures.1, put_length c.put_digits-hexadecimal.ensures, c.put_digits-hexadecimal.ensures.1)

pub returns : goal.returns
unfolding number_text bytes_of
returns c =
    let p = put_then c.put_digits-decimal.ensures (put_then c.put_text-opened.ensures (put_then c.put_digits-hexadecimal.ensures c.put_text.ensures)) in
    (p, omega (arith, p.1, few_number c.args.x (omega arith)))
