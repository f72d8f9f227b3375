-- How long the text of a rule is: what stands before the row of its form, and the row. Assumes nothing.
use mathlib.Core.Bool.{◌&&◌}
use mathlib.Core.List.{◌++◌}
use Prim.Native.Nat.{ℕ, ◌-◌, ◌^◌, ◌≤◌}
use native.Mathlib.Omega.{arith}
use lib.Dec.{eqb}
use lib.ListN.{length, length-append}
use Rattle.rule.specs.declared.Rule.{Rule}
use Rattle.digits.proofs.phrase.Sizes.{either}
use Rattle.wording.specs.form_rows.Forms.{form_text}
use Rattle.wording.proofs.forms.Sizes.{few_text}
use Rattle.wording.specs.signs.Signs.{at_least, at_most, before}
use Rattle.wording.proofs.signs.Sizes.{few_at_least, few_at_most, few_before}
use Rattle.wording.specs.Wording.{ROOM, rule_text}

-- the room that is asked for is enough
pub few_rule : (w : ℕ) (r : Rule) → w ≤ 64 → r.c1 ≤ 2 ^ 64 - 1 → r.c2 ≤ 2 ^ 64 - 1 → length (rule_text w r) ≤ ROOM
unfolding rule_text
few_rule w r high a b =
    let least : length (at_least r.sense r.c1) ≤ 63 = omega (arith, few_at_least r.sense r.c1 a) in
    let most : length (at_most r.sense r.c2) ≤ 63 = omega (arith, few_at_most r.sense r.c2 b) in
    let other : length (before r.sense ++ form_text w r) ≤ 63 = omega (arith, length-append (before r.sense) (form_text w r), few_before r.sense, few_text w r high a b) in
    either (eqb r.form 2 && eqb r.c2 0) (at_least r.sense r.c1) _ 63 least
    (either (eqb r.form 3 && eqb r.c1 0) (at_most r.sense r.c2) (before r.sense ++ form_text w r) 63 most other)
