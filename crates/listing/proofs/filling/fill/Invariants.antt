use mathlib.Core.Path.{◌≡◌}
use Prim.Native.Nat.{◌+◌, ◌*◌, ◌-◌, ◌≤◌}
use lib.ListN.{length, take}
use Rattle.search.specs.rows.route.Bands.{passes}
use Rattle.search.specs.rows.route.Rows.{bands_in}
use Rattle.search.specs.section.route.Turns.{turns_from}
use Rattle.counting.specs.fitting.Words.{at_start}
use Rattle.listing.proofs.filling.Sections.{up_to}
use Rattle.listing.proofs.filling.fill.Given as goal

abbrev pub invariant-loop : goal.invariant-loop
invariant-loop l =
    (l.start ≤ l.p)
    × (l.p ≤ l.top)
    × (l.at ≡ length (up_to l.initial.out (passes (take l.n (bands_in l.rows)) l.force.fixed) l.start l.p))
    × (l.out ≡ at_start (up_to l.initial.out (passes (take l.n (bands_in l.rows)) l.force.fixed) l.start l.p) l.initial.out)
    × (l.counter + turns_from l.top (take l.n (bands_in l.rows)) l.p ≤ 2 * l.n)

abbrev pub decreases-loop : goal.decreases-loop
decreases-loop l = l.most - l.counter
