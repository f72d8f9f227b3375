use mathlib.Core.Path.{◌≡◌}
use Prim.Native.Nat.{◌-◌}
use lib.ListN.{length}
use Rattle.rule.specs.Meaning.{RULES}
use Rattle.chain.specs.Links.{chain_room}
use Rattle.sheet.specs.slate.route.Held.{Held}
use Rattle.desk.specs.feed.route.Statements.{desk_of}
use Rattle.coming.specs.Calls.{MOST}
use Rattle.desk.specs.turns.Turns.{Turns}
use Rattle.desk.proofs.turns.converse.Given as goal

abbrev pub invariant-loop-input : goal.invariant-loop-input
invariant-loop-input l =
    (65536 ≡ length l.input)
    × (length l.out ≡ length l.initial.out)
    × (length l.chain ≡ chain_room RULES)
    × Held l.turn.state.head l.rows l.marks
    × Turns l.turns l.turn.came l.turn.taken (desk_of l.turn.state l.rows l.marks)

abbrev pub decreases-loop-input : goal.decreases-loop-input
decreases-loop-input l = MOST - l.turns
