-- `link_of` meets its contract: each number is that of its digits. Assumes nothing.
use mathlib.Core.Path.{◌≡◌, ap}
use Prim.Native.Nat.{◌≤◌}
use native.Mathlib.Omega.{arith}
use Rattle.word.specs.declared.Terms.{Terms}
use Rattle.word.specs.Edition.{terms}
use Rattle.word.proofs.Editions.{digits_held}
use Rattle.citing.specs.linked.Linked.{link_of}
use Rattle.citing.proofs.linked.link_of.Goals.{After-terms-digits}
use Rattle.citing.proofs.linked.link_of.Goals as goal

-- what was found are the edition's digits
digits : (t : After-terms-digits) → t.terms-digits.result.digits ≡ (terms t.args.edition).digits
digits t = ap (λ (k : Terms). k.digits) t.terms-digits.ensures

few : (t : After-terms-digits) → t.terms-digits.result.digits ≤ 16
few t = omega (arith, digits t, digits_held t.args.edition)

pub overflow_add-to : goal.overflow_add-to
overflow_add-to c = omega (arith, few (goal.at.overflow_add-to c).After-terms-digits)

pub overflow_add-reason : goal.overflow_add-reason
overflow_add-reason c = omega (arith, few (goal.at.overflow_add-reason c).After-terms-digits)

pub overflow_add-end : goal.overflow_add-end
overflow_add-end c = omega (arith, few (goal.at.overflow_add-end c).After-terms-digits)

pub number-requires : goal.number-requires
number-requires c = record { from_le_to = (omega arith, omega (arith, digits (goal.at.number-requires c).After-terms-digits)); to_bound = omega (arith, few (goal.at.number-requires c).After-terms-digits) }

pub number-requires-2 : goal.number-requires-2
number-requires-2 c = record { from_le_to = (omega arith, omega (arith, digits (goal.at.number-requires-2 c).After-terms-digits)); to_bound = omega (arith, few (goal.at.number-requires-2 c).After-terms-digits) }

pub number-requires-3 : goal.number-requires-3
number-requires-3 c = record { from_le_to = (omega arith, omega (arith, digits (goal.at.number-requires-3 c).After-terms-digits)); to_bound = omega arith }

pub returns : goal.returns
unfolding link_of
returns c = cc (digits (goal.at.returns c).After-terms-digits)
