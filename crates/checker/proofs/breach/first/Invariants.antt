use Prim.Native.Nat.{◌*◌}
use lib.ListN.{take}
use Rattle.search.specs.rows.route.Rows.{rules_in}
use Rattle.checker.proofs.breach.Walk.{Midway}
use Rattle.checker.proofs.breach.first.Given as goal

abbrev pub invariant-loop-number : goal.invariant-loop-number
invariant-loop-number l = Midway l.force.width.bits (take l.force.count (rules_in l.rows)) l.fn.links l.number (3 * l.number) l.end
