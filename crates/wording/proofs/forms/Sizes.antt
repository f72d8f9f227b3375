-- How long a row is: its letters and its numbers. Assumes nothing.
use mathlib.Core.Path.{◌≡◌}
use mathlib.Core.List.{List, [], ◌++◌}
use Prim.Native.Nat.{ℕ, zero, suc, ◌+◌, ◌-◌, ◌^◌, ◌≤◌}
use native.Mathlib.Omega.{arith}
use lib.ListN.{get_or, length, length-append}
use Rattle.rule.specs.declared.Rule.{Rule}
use Rattle.digits.specs.hexadecimal.Text.{bytes_of}
use Rattle.digits.specs.phrase.Phrase.{decimal, signedly}
use Rattle.digits.proofs.phrase.Sizes.{few_decimal, few_signed}
use Rattle.wording.specs.form_rows.Forms.{ROW, form_text, forms}

four : (a b c d : List ℕ) → length (a ++ (b ++ (c ++ d))) ≡ length a + (length b + (length c + length d))
four a b c d = simp length-append

module _ (w c1 c2 : ℕ) (high : w ≤ 64) (a : c1 ≤ 2 ^ 64 - 1) (b : c2 ≤ 2 ^ 64 - 1) where
  few_two : (lead middle : List ℕ) → length (lead ++ (decimal c1 ++ (middle ++ decimal c2))) ≤ length lead + length middle + 40
  few_two lead middle = omega (arith, four lead (decimal c1) middle (decimal c2), few_decimal c1 a, few_decimal c2 b)

  few_form : (form : ℕ) → length (get_or (forms w c1 c2) form []) ≤ ROW
  unfolding bytes_of
  few_form zero = omega arith
  few_form (suc zero) = omega (arith, few_two (bytes_of "x + ") (bytes_of " <= x + "))
  few_form (suc (suc zero)) = omega (arith, few_two [] (bytes_of " <= x + "))
  few_form (suc (suc (suc zero))) = omega (arith, few_two (bytes_of "x + ") (bytes_of " <= "))
  few_form (suc (suc (suc (suc zero)))) = omega (arith, few_signed w c1 high a)
  few_form (suc (suc (suc (suc (suc zero))))) = omega (arith, few_signed w c1 high a, length-append (signedly w c1) (bytes_of " <= signed x"))
  few_form (suc (suc (suc (suc (suc (suc zero)))))) = omega (arith, few_decimal c1 a)
  few_form (suc (suc (suc (suc (suc (suc (suc zero))))))) = omega (arith, few_two (bytes_of "x & ") (bytes_of " = "))
  few_form (suc (suc (suc (suc (suc (suc (suc (suc zero)))))))) = omega (arith, few_two (bytes_of "settled since ") (bytes_of " for "))
  few_form (suc (suc (suc (suc (suc (suc (suc (suc (suc form))))))))) = omega arith

pub few_text : (w : ℕ) (r : Rule) → w ≤ 64 → r.c1 ≤ 2 ^ 64 - 1 → r.c2 ≤ 2 ^ 64 - 1 → length (form_text w r) ≤ ROW
unfolding form_text
few_text w r high a b = few_form w r.c1 r.c2 high a b r.form
