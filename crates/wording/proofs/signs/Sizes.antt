-- How long what stands before a rule is, and the rows of forms 2 and 3 where nothing is added to x. Assumes nothing.
use mathlib.Core.List.{[]}
use Prim.Native.Nat.{ℕ, ◌-◌, ◌^◌, ◌≤◌}
use native.Mathlib.Omega.{arith}
use lib.Dec.{eqb}
use lib.ListN.{length}
use Rattle.digits.specs.hexadecimal.Text.{bytes_of}
use Rattle.digits.proofs.phrase.Sizes.{either, few_decimal}
use Rattle.wording.specs.signs.Signs.{at_least, at_most, before}

pub few_before : (sense : ℕ) → length (before sense) ≤ 4
unfolding before bytes_of
few_before sense = either (eqb sense 0) [] (bytes_of "not ") 4 (omega arith) (omega arith)

pub few_at_least : (sense n : ℕ) → n ≤ 2 ^ 64 - 1 → length (at_least sense n) ≤ 25
unfolding at_least bytes_of
few_at_least sense n h = either (eqb sense 0) _ _ 25 (omega (arith, few_decimal n h)) (omega (arith, few_decimal n h))

pub few_at_most : (sense n : ℕ) → n ≤ 2 ^ 64 - 1 → length (at_most sense n) ≤ 25
unfolding at_most bytes_of
few_at_most sense n h = either (eqb sense 0) _ _ 25 (omega (arith, few_decimal n h)) (omega (arith, few_decimal n h))
