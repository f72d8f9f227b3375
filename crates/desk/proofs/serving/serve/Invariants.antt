use mathlib.Core.Path.{◌≡◌}
use Prim.Native.Nat.{◌-◌, ◌≤◌}
use lib.ListN.{length, take}
use Rattle.rule.specs.Meaning.{RULES}
use Rattle.chain.specs.Links.{chain_room}
use Rattle.sheet.specs.slate.route.Held.{Held}
use Rattle.desk.specs.feed.route.Statements.{desk_of}
use Rattle.desk.specs.serving.Passed.{Passed}
use Rattle.desk.proofs.serving.serve.Given as goal

abbrev pub invariant-loop-at : goal.invariant-loop-at
invariant-loop-at g l =
    (l.at ≤ length l.part)
    × (length l.out ≡ length l.initial.out)
    × (length l.chain ≡ chain_room RULES)
    × Held l.state.head l.rows l.marks
    × Passed (desk_of l.initial.state l.initial.rows l.initial.marks) (take l.at l.part) (desk_of l.state l.rows l.marks)

abbrev pub decreases-loop-at : goal.decreases-loop-at
decreases-loop-at g l = length l.part - l.at
