-- `put_rule` meets its contract: the tests pick the row, and the longest row has the room that is asked for. Assumes nothing.
use mathlib.Core.Path.{◌≡◌, sym}
use mathlib.Core.Bool.{false, ◌&&◌, and-false}
use Prim.Native.Nat.{ℕ}
use native.Mathlib.Omega.{arith}
use borrow.Author.Tests.{ne_eqb}
use lib.Dec.{eqb}
use Rattle.digits.proofs.phrase.Putting.{put_as, put_length, put_then}
use Rattle.wording.proofs.forms.Sizes.{few_text}
use Rattle.wording.proofs.signs.Sizes.{few_at_least, few_at_most, few_before}
use Rattle.wording.proofs.Sizes.{few_rule}
use Rattle.wording.proofs.Texts.{at_least_lem, at_most_lem, by_form}
use Rattle.wording.proofs.put_rule.Goals.{else-rule-eq2-via-else-rule-eq2, else-rule-eq2-via-then-rule-eq2+else-rule-eq0, else-rule-eq3-via-else-rule-eq3, else-rule-eq3-via-then-rule-eq3+else-rule-eq0-2}
use Rattle.wording.proofs.put_rule.Goals as goal

-- either number is another one
not_first : (f g a : ℕ) → (f ≡ g → ⊥) → (eqb f g && eqb a 0) ≡ false
not_first f g a h = rw (ne_eqb f g h)

not_second : (f g a : ℕ) → (a ≡ 0 → ⊥) → (eqb f g && eqb a 0) ≡ false
not_second f g a h = rw (ne_eqb a 0 h) (and-false (eqb f g))

pub put_at_least-requires : goal.put_at_least-requires
put_at_least-requires c =
    omega (arith, few_at_least c.args.rule.sense c.args.rule.c1 (omega arith))

pub returns-then-rule-eq0 : goal.returns-then-rule-eq0
returns-then-rule-eq0 c =
    let p = put_as (sym (at_least_lem c.args.width.bits c.args.rule (omega arith) (omega arith))) c.put_at_least.ensures in
    (p, omega (arith, p.1, few_rule c.args.width.bits c.args.rule c.requires.width.high (omega arith) (omega arith)))

pub put_at_most-requires : goal.put_at_most-requires
put_at_most-requires c =
    omega (arith, few_at_most c.args.rule.sense c.args.rule.c2 (omega arith))

pub returns-then-rule-eq0-2 : goal.returns-then-rule-eq0-2
returns-then-rule-eq0-2 c =
    let p = put_as (sym (at_most_lem c.args.width.bits c.args.rule (omega arith) (omega arith))) c.put_at_most.ensures in
    (p, omega (arith, p.1, few_rule c.args.width.bits c.args.rule c.requires.width.high (omega arith) (omega arith)))

pub put_before-from-requires : goal.put_before-from-requires
put_before-from-requires c = omega (arith, few_before c.args.rule.sense)

pub put_form-requires : goal.put_form-requires
put_form-requires c = record { width = c.requires.width; rule_in_bounds = omega (arith, few_before c.args.rule.sense, few_text c.args.width.bits c.args.rule c.requires.width.high (omega arith) (omega arith), put_length c.put_before-from.ensures, c.put_before-from.ensures.1) }

pub returns : goal.returns
returns c =
    let least : (eqb c.args.rule.form 2 && eqb c.args.rule.c2 0) ≡ false = elim c.else-rule-eq2.branch [ else-rule-eq2-via-then-rule-eq2+else-rule-eq0 w ↦ not_second c.args.rule.form 2 c.args.rule.c2 w.if-rule-eq0.false | else-rule-eq2-via-else-rule-eq2 w ↦ not_first c.args.rule.form 2 c.args.rule.c2 w.if-rule-eq2.false ] in
    let most : (eqb c.args.rule.form 3 && eqb c.args.rule.c1 0) ≡ false = elim c.else-rule-eq3.branch [ else-rule-eq3-via-then-rule-eq3+else-rule-eq0-2 w ↦ not_second c.args.rule.form 3 c.args.rule.c1 w.if-rule-eq0-2.false | else-rule-eq3-via-else-rule-eq3 w ↦ not_first c.args.rule.form 3 c.args.rule.c1 w.if-rule-eq3.false ] in
    let p = put_as (sym (by_form c.args.width.bits c.args.rule least most)) (put_then c.put_before-from.ensures c.put_form.ensures) in
    (p, omega (arith, p.1, few_rule c.args.width.bits c.args.rule c.requires.width.high (omega arith) (omega arith)))
