use mathlib.Core.Path.{◌≡◌}
use Prim.Native.Nat.{◌-◌, ◌≤◌, min}
use lib.ListN.{drop, take}
use Rattle.rule.specs.Meaning.{RULES}
use Rattle.naming.specs.by_name.Which.{number_from, number_of}
use Rattle.naming.proofs.by_name.number_of.Given as goal

abbrev pub invariant-loop-i : goal.invariant-loop-i
invariant-loop-i l = (l.i ≤ RULES) × (number_of l.names l.count l.name ≡ number_from l.i (drop l.i (take (min l.count RULES) l.names)) l.name)

abbrev pub decreases-loop-i : goal.decreases-loop-i
decreases-loop-i l = RULES - l.i
