use mathlib.Core.Path.{◌≡◌}
use mathlib.Core.Bool.{true}
use Prim.Native.Nat.{suc, ◌+◌, ◌-◌, ◌≤◌, min}
use lib.ListN.{length}
use Rattle.word.specs.Search.{passing}
use Rattle.rule.specs.bits.route.Fixed.{has_bits}
use Rattle.listing.specs.putting.route.Put.{put_at}
use Rattle.listing.proofs.putting.put_section.Given as goal

abbrev pub invariant-loop-at : goal.invariant-loop-at
invariant-loop-at l =
    (l.p ≤ l.x)
    × (has_bits l.fixed l.x ≡ true)
    × (l.at ≡ l.place + length (passing (has_bits l.fixed) (min l.x (suc l.last) - l.p) l.p))
    × (l.at ≤ length l.initial.out)
    × (l.out ≡ put_at l.initial.out l.place (passing (has_bits l.fixed) (min l.x (suc l.last) - l.p) l.p))

abbrev pub decreases-loop-at : goal.decreases-loop-at
decreases-loop-at l = suc l.last - l.x
