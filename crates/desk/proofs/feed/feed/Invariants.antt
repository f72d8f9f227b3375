use mathlib.Core.Path.{◌≡◌}
use Prim.Native.Nat.{◌-◌, ◌≤◌}
use lib.ListN.{length}
use Rattle.rule.specs.Meaning.{RULES}
use Rattle.chain.specs.Links.{chain_room}
use Rattle.frame.specs.exchange.route.Desk.{desk}
use Rattle.frame.proofs.exchange.Parts.{Midway}
use Rattle.sheet.specs.slate.route.Held.{Held}
use Rattle.sheet.specs.route.Held.{packed}
use Rattle.desk.proofs.feed.feed.Given as goal

abbrev pub invariant-loop-used : goal.invariant-loop-used
invariant-loop-used l =
    (l.used ≤ length l.part)
    × (l.written ≤ length l.initial.out)
    × (length l.out ≡ length l.initial.out)
    × (length l.chain ≡ chain_room RULES)
    × Held l.head l.rows l.marks
    × Midway (desk (packed l.initial.head l.initial.rows l.initial.marks) l.initial.begun) l.part l.initial.out (desk (packed l.head l.rows l.marks) l.begun) l.used l.written l.out

abbrev pub decreases-loop-used : goal.decreases-loop-used
decreases-loop-used l = length l.part - l.used
