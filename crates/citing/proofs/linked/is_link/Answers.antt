-- `is_link` meets its contract: the tests pick the case. Assumes nothing.
use mathlib.Core.Path.{◌≡◌, sym, ap, ◌∙◌}
use Prim.Native.Nat.{◌≤◌}
use native.Mathlib.Omega.{arith}
use borrow.Author.Tests.{eq-eqb, ne_eqb}
use lib.ListN.{length}
use Rattle.word.specs.declared.Terms.{Terms}
use Rattle.word.specs.Edition.{terms}
use Rattle.word.proofs.Editions.{digits_held}
use Rattle.frame.specs.fields.Fields.{WORD}
use Rattle.citing.specs.linked.Linked.{end_of, is_link}
use Rattle.citing.proofs.linked.is_link.Goals.{After-terms-digits}
use Rattle.citing.proofs.linked.is_link.Goals as goal

-- what was found are the edition's digits
digits : (t : After-terms-digits) → t.terms-digits.result.digits ≡ (terms t.args.edition).digits
digits t = ap (λ (k : Terms). k.digits) t.terms-digits.ensures

few : (t : After-terms-digits) → t.terms-digits.result.digits ≤ 16
few t = omega (arith, digits t, digits_held t.args.edition)

pub overflow_add-digits : goal.overflow_add-digits
overflow_add-digits c = omega (arith, few (goal.at.overflow_add-digits c).After-terms-digits)

pub overflow_add-digits-2 : goal.overflow_add-digits-2
overflow_add-digits-2 c = omega (arith, few (goal.at.overflow_add-digits-2 c).After-terms-digits)

pub overflow_add-digits-3 : goal.overflow_add-digits-3
overflow_add-digits-3 c = omega (arith, few (goal.at.overflow_add-digits-3 c).After-terms-digits)

pub returns-then-line-digits : goal.returns-then-line-digits
unfolding is_link
returns-then-line-digits c =
    rw (ne_eqb (length c.args.line.now) (end_of (WORD c.args.edition)) (λ e. omega (arith, digits (goal.at.returns-then-line-digits c).After-terms-digits, c.if-line-digits.true)))

pub returns-then-not-all_digits : goal.returns-then-not-all_digits
unfolding is_link
returns-then-not-all_digits c =
    rw (eq-eqb (length c.args.line.now) (end_of (WORD c.args.edition)) (omega (arith, digits (goal.at.returns-then-not-all_digits c).After-terms-digits)), sym c.all_digits.ensures ∙ c.if-not-all_digits.true)

pub returns : goal.returns
unfolding is_link
returns c =
    rw (eq-eqb (length c.args.line.now) (end_of (WORD c.args.edition)) (omega (arith, digits (goal.at.returns c).After-terms-digits)), sym c.all_digits.ensures ∙ c.if-not-all_digits.false, ← c.number.ensures)
