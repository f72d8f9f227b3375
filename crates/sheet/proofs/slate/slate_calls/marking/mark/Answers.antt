-- `mark` meets its contract: what waited is taken away, the last rule in force is noted, and the number of rules in force goes into the
-- next place. Assumes nothing.
use mathlib.Core.Path.{◌≡◌, sym, ap, ◌∙◌, subst}
use mathlib.Core.List.{List}
use Prim.Native.Nat.{ℕ}
use native.Mathlib.Omega.{arith}
use lib.ListN.{set}
use Rattle.sheet.specs.declared.slate.Head.{Head}
use Rattle.sheet.specs.slate.route.Numbers.{before}
use Rattle.sheet.proofs.slate.Holding.{waits_so}
use Rattle.sheet.specs.slate.slate_calls.route.Done.{Marks}
use Rattle.sheet.specs.slate.slate_calls.route.Done.Marks.{marked, unmarked}
use Rattle.sheet.specs.slate.stepping.route.Steps.Refused.{before_first}
use Rattle.sheet.proofs.slate.slate_calls.Marked.{beside_marked, rules_marked}
use Rattle.sheet.proofs.slate.slate_calls.marking.mark.Goals.{Else-refused}
use Rattle.sheet.proofs.slate.slate_calls.marking.mark.Goals as goal

-- no number comes before the table
none : (a : Else-refused) → before a.args.head.stands a.args.head.opening.width ≡ 0
none a = sym a.refuses-number.ensures ∙ a.if-refused.false

pub returns-then-refused : goal.returns-then-refused
returns-then-refused c = unmarked (before_first c.refuses-number.ensures (c.if-refused.true))

pub clear_waiting-requires : goal.clear_waiting-requires
clear_waiting-requires c = waits_so c.requires (none (goal.at.clear_waiting-requires c).Else-refused)

pub put_note-requires : goal.put_note-requires
put_note-requires c =
    let w = waits_so c.requires (none (goal.at.put_note-requires c).Else-refused) in
    omega (arith, w.given_low, w.given_high)

pub overflow_add-next : goal.overflow_add-next
overflow_add-next c =
    omega (arith, c.if-full.false)

pub returns : goal.returns
returns c =
    let marks = ap (λ (m : List ℕ). set m c.args.head.counts.marked c.args.head.counts.count) c.clear_waiting.ensures.marks_after in
    subst (λ (k : Head). Marks c.args.head c.args.rows.now c.args.marks.now 0 k c.put_note.new.rows (set c.clear_waiting.new.marks c.args.head.counts.marked c.args.head.counts.count)) (sym c.of-head.ensures)
    (marked (none (goal.at.returns c).Else-refused) (c.if-full.false) (rules_marked c.requires (none (goal.at.returns c).Else-refused) _ c.put_note.new.rows c.clear_waiting.ensures.rows_after c.put_note.ensures) marks (beside_marked c.requires (none (goal.at.returns c).Else-refused) _ c.put_note.new.rows c.clear_waiting.ensures.rows_after c.put_note.ensures))
