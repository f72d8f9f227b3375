use Prim.Native.Nat.{◌-◌, ◌≤◌}
use lib.ListN.{take}
use Rattle.word.specs.Word.{top}
use Rattle.search.specs.rows.route.Bands.{all_seen}
use Rattle.search.specs.rows.route.Rows.{bands_in}
use Rattle.search.specs.leap.route.Leapt.{NoneFrom}
use Rattle.search.proofs.leap.leap.Given as goal

abbrev pub invariant-loop-k : goal.invariant-loop-k
invariant-loop-k l =
    (l.start ≤ l.p) × (l.p ≤ top l.force.width.bits) × NoneFrom (all_seen l.turned (top l.force.width.bits) (take l.force.count (bands_in l.rows))) l.force.fixed l.start l.p

abbrev pub decreases-loop-k : goal.decreases-loop-k
decreases-loop-k l = l.n - l.k
