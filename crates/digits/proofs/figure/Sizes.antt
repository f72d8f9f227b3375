-- How long a number is. Assumes nothing.
use mathlib.Core.List.{◌++◌}
use Prim.Native.Nat.{ℕ, ◌-◌, ◌^◌, ◌≤◌}
use native.Mathlib.Omega.{arith}
use lib.ListN.{length, length-append}
use Rattle.digits.specs.hexadecimal.Text.{bytes_of}
use Rattle.digits.specs.numeral.Digits.{digits_in}
use Rattle.digits.specs.phrase.Phrase.{decimal}
use Rattle.digits.proofs.phrase.Sizes.{few_decimal, few_hexadecimal}
use Rattle.digits.specs.figure.Figure.{NUMBER, number_text}

pub few_number : (x : ℕ) → x ≤ 2 ^ 64 - 1 → length (number_text x) ≤ NUMBER
unfolding number_text bytes_of
few_number x h =
    omega (arith, length-append (decimal x) (bytes_of " (0x" ++ (digits_in 16 x ++ bytes_of ")")), length-append (digits_in 16 x) (bytes_of ")"), few_decimal x h, few_hexadecimal x h)
