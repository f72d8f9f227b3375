-- `rule_of` meets its contract: each field is the number of its digits. Assumes nothing.
use mathlib.Core.Path.{◌≡◌, ap}
use Prim.Native.Nat.{◌≤◌}
use native.Mathlib.Omega.{arith}
use Rattle.word.specs.declared.Terms.{Terms}
use Rattle.word.specs.Edition.{terms}
use Rattle.word.proofs.Editions.{digits_held}
use Rattle.frame.specs.frame_numbers.route.Numbers.{rule_of}
use Rattle.frame.proofs.frame_numbers.rule_of.Goals.{After-terms-word}
use Rattle.frame.proofs.frame_numbers.rule_of.Goals as goal

-- what was found are the edition's digits
digits : (t : After-terms-word) → t.terms-word.result.digits ≡ (terms t.args.edition).digits
digits t = ap (λ (k : Terms). k.digits) t.terms-word.ensures

few : (t : After-terms-word) → t.terms-word.result.digits ≤ 16
few t = omega (arith, digits t, digits_held t.args.edition)

pub overflow_add-c2 : goal.overflow_add-c2
overflow_add-c2 c = omega (arith, few (goal.at.overflow_add-c2 c).After-terms-word)

pub overflow_add-end : goal.overflow_add-end
overflow_add-end c = omega (arith, few (goal.at.overflow_add-end c).After-terms-word)

pub number-requires : goal.number-requires
number-requires c = record { from_le_to = (omega arith, omega (arith, digits (goal.at.number-requires c).After-terms-word)); to_bound = omega arith }

pub number-requires-2 : goal.number-requires-2
number-requires-2 c = record { from_le_to = (omega arith, omega (arith, digits (goal.at.number-requires-2 c).After-terms-word)); to_bound = omega arith }

pub number-requires-3 : goal.number-requires-3
number-requires-3 c = record { from_le_to = (omega arith, omega (arith, digits (goal.at.number-requires-3 c).After-terms-word)); to_bound = omega (arith, few (goal.at.number-requires-3 c).After-terms-word) }

pub number-requires-4 : goal.number-requires-4
number-requires-4 c = record { from_le_to = (omega arith, omega (arith, digits (goal.at.number-requires-4 c).After-terms-word)); to_bound = omega (arith, few (goal.at.number-requires-4 c).After-terms-word) }

pub returns : goal.returns
unfolding rule_of
returns c = cc (digits (goal.at.returns c).After-terms-word)
