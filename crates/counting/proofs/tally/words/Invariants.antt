use mathlib.Core.Path.{◌≡◌}
use Prim.Native.Nat.{◌+◌, ◌*◌, ◌-◌, ◌≤◌}
use lib.ListN.{take}
use Rattle.word.specs.Search.{count}
use Rattle.search.specs.rows.route.Bands.{passes}
use Rattle.search.specs.rows.route.Rows.{bands_in}
use Rattle.search.specs.section.route.Turns.{turns_from}
use Rattle.counting.specs.tally.route.Total.{totals}
use Rattle.counting.proofs.tally.words.Given as goal

abbrev pub invariant-loop : goal.invariant-loop
invariant-loop l =
    (l.p ≤ l.top)
    × (l.total ≡ totals (count (passes (take l.force.count (bands_in l.rows)) l.force.fixed) l.p 0))
    × (l.counter + turns_from l.top (take l.force.count (bands_in l.rows)) l.p ≤ 2 * l.force.count)

abbrev pub decreases-loop : goal.decreases-loop
decreases-loop l = l.most - l.counter
