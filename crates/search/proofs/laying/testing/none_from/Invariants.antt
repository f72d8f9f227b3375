use mathlib.Core.Path.{◌≡◌}
use Prim.Native.Nat.{◌-◌, ◌≤◌}
use lib.ListN.{drop}
use Rattle.rule.specs.Meaning.{RULES}
use Rattle.rule.specs.accept.Accept.{every, is_no_rule}
use Rattle.search.specs.rows.route.Rows.{rules_in}
use Rattle.search.proofs.laying.testing.none_from.Given as goal

abbrev pub invariant-loop-i : goal.invariant-loop-i
invariant-loop-i l =
    (l.i ≤ RULES) × (l.n ≤ l.i) × (every is_no_rule (drop l.n (rules_in l.rows)) ≡ every is_no_rule (drop l.i (rules_in l.rows)))

abbrev pub decreases-loop-i : goal.decreases-loop-i
decreases-loop-i l = RULES - l.i
