-- `adds` meets its contract: the tests are those of the length and of the code. Assumes nothing.
use mathlib.Core.Path.{◌≡◌, ap}
use Prim.Native.Nat.{◌≤◌}
use native.Mathlib.Omega.{arith}
use borrow.Author.Tests.{eq-eqb, ne_eqb}
use Rattle.word.specs.declared.Terms.{Terms}
use Rattle.word.specs.Edition.{terms}
use Rattle.word.proofs.Editions.{digits_held}
use Rattle.frame.specs.frame_numbers.route.Numbers.{adding}
use Rattle.frame.proofs.frame_numbers.adds.Goals.{After-terms-terms}
use Rattle.frame.proofs.frame_numbers.adds.Goals as goal

-- what was found are the edition's digits
digits : (t : After-terms-terms) → t.terms-terms.result.digits ≡ (terms t.args.edition).digits
digits t = ap (λ (k : Terms). k.digits) t.terms-terms.ensures

few : (t : After-terms-terms) → t.terms-terms.result.digits ≤ 16
few t = omega (arith, digits t, digits_held t.args.edition)

pub overflow_add-end : goal.overflow_add-end
overflow_add-end c = omega (arith, few (goal.at.overflow_add-end c).After-terms-terms)

pub overflow_add-end-2 : goal.overflow_add-end-2
overflow_add-end-2 c = omega (arith, few (goal.at.overflow_add-end-2 c).After-terms-terms)

pub returns-then-digits-end : goal.returns-then-digits-end
returns-then-digits-end c =
    rw (ne_eqb c.args.digits (adding c.args.edition) (λ e. c.if-digits-end.true (omega (arith, digits (goal.at.returns-then-digits-end c).After-terms-terms))))

pub returns : goal.returns
returns c =
    rw (eq-eqb c.args.digits (adding c.args.edition) (omega (arith, digits (goal.at.returns c).After-terms-terms)), ← ap (λ (k : Terms). k.adds) c.terms-terms.ensures)
