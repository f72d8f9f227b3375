-- `value` meets its contract: the tests pick the row. Assumes nothing.
use mathlib.Core.Path.{◌≡◌, sym, ◌∙◌}
use mathlib.Core.Bool.{true, ◌&&◌}
use Prim.Native.Nat.{ℕ, ◌≤◌}
use native.Mathlib.Omega.{arith}
use borrow.Author.Tests.{leb-true}
use lib.Dec.{leb}
use Rattle.digits.specs.hexadecimal.Hex.{value}
use Rattle.digits.proofs.hexadecimal.Inverse.{both}
use Rattle.digits.proofs.hexadecimal.value.Goals as goal

-- what a test of two ends shows
within : (a b e : ℕ) → (leb a b && leb b e) ≡ true → (a ≤ b) × (b ≤ e)
within a b e t = let s = both (leb a b) (leb b e) t in (leb-true a b s.0, leb-true b e s.1)

pub overflow_sub-result : goal.overflow_sub-result
overflow_sub-result c = (within 48 c.args.b 57 (sym c.is_numeral.ensures ∙ c.if-is_numeral.true)).0

pub returns-then-is_numeral : goal.returns-then-is_numeral
unfolding value
returns-then-is_numeral c =
    let t = sym c.is_numeral.ensures ∙ c.if-is_numeral.true in
    (rw t, omega (arith, within 48 c.args.b 57 t))

pub overflow_sub-result-then-is_letter : goal.overflow_sub-result-then-is_letter
overflow_sub-result-then-is_letter c =
    let t = sym c.is_letter.ensures ∙ c.if-is_letter.true in
    omega (arith, within 97 c.args.b 102 t)

pub returns-then-is_letter : goal.returns-then-is_letter
unfolding value
returns-then-is_letter c =
    let f = sym c.is_numeral.ensures ∙ c.if-is_numeral.false in
    let t = sym c.is_letter.ensures ∙ c.if-is_letter.true in
    (rw (f, t), omega (arith, within 97 c.args.b 102 t))

pub returns : goal.returns
unfolding value
returns c =
    let f = sym c.is_numeral.ensures ∙ c.if-is_numeral.false in
    (rw (f, sym c.is_letter.ensures ∙ c.if-is_letter.false), omega arith)
