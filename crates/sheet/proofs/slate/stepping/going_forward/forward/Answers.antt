-- `forward` meets its contract: the counters move on, and what is kept is noted, or found from the old ends. Assumes nothing.
use mathlib.Core.Path.{◌≡◌, sym, ◌∙◌, subst}
use Prim.Native.Nat.{◌+◌, ◌-◌}
use native.Mathlib.Omega.{arith}
use Rattle.sheet.specs.slate.route.Numbers.{before}
use Rattle.sheet.specs.slate.stepping.route.Steps.{Forwards}
use Rattle.sheet.specs.slate.stepping.route.Steps.Forwards.{goes_on, remains}
use Rattle.sheet.specs.slate.stepping.route.Steps.Refused.{before_first}
use Rattle.sheet.proofs.slate.stepping.Moved.{moved_beside}
use Rattle.sheet.proofs.slate.stepping.SteppedForward.{brings_low, marks_there, sought_forward}
use Rattle.sheet.proofs.slate.stepping.going_forward.forward.Goals.{Else-refused}
use Rattle.sheet.proofs.slate.stepping.going_forward.forward.Goals as goal

-- no number comes before the table
none : (a : Else-refused) → before a.args.head.stands a.args.head.opening.width ≡ 0
none a = sym a.refuses-number.ensures ∙ a.if-refused.false

pub returns-then-refused : goal.returns-then-refused
returns-then-refused c = remains (before_first c.refuses-number.ensures (c.if-refused.true))

pub overflow_add-next : goal.overflow_add-next
overflow_add-next c = omega (arith, marks_there c.requires (none (goal.at.overflow_add-next c).Else-refused) (c.if-none.false))

pub overflow_sub-left : goal.overflow_sub-left
overflow_sub-left c = omega (arith, c.if-none.false)

pub in_force-count-requires : goal.in_force-count-requires
in_force-count-requires c =
    (omega (arith, marks_there c.requires (none (goal.at.in_force-count-requires c).Else-refused) (c.if-none.false)), c.requires.room.marks_places)

pub find-note-requires : goal.find-note-requires
find-note-requires c =
    sought_forward c.requires (none (goal.at.find-note-requires c).Else-refused) (c.if-none.false) _ c.in_force-count.ensures

pub returns : goal.returns
returns c =
    let n = none (goal.at.returns c).Else-refused in
    let low = brings_low c.requires n (c.if-none.false) _ c.in_force-count.ensures in
    let beside = moved_beside c.requires n c.in_force-count.result low (c.args.head.counts.marked + 1) (c.args.head.counts.waiting - 1) _ _ c.find-note.ensures.fixes_so in
    subst (Forwards c.args.head c.args.rows.now c.args.marks.now 0) (sym c.of-head.ensures)
    (goes_on _ _ _ n (c.if-none.false) c.in_force-count.ensures beside c.find-note.ensures.keeps_so)
