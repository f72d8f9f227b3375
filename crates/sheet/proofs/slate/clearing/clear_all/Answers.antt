-- `clear_all` meets its contract: where there is a sheet nothing lies after what was given, and else every place is cleared. Assumes
-- nothing.
use mathlib.Core.Path.{ap, ◌∙◌}
use Prim.Native.Nat.{◌+◌}
use native.Mathlib.Omega.{arith}
use Rattle.rule.specs.Meaning.{RULES}
use Rattle.rule.specs.accept.Accept.{no_rule}
use Rattle.search.specs.rows.route.Rows.{rules_in}
use Rattle.page.specs.Page.{MARKS}
use Rattle.sheet.specs.slate.route.Held.{Waits}
use Rattle.sheet.proofs.slate.Cleared.{emptied, past_all, rules_cleared}
use Rattle.sheet.proofs.slate.Holding.{rules_places, waits_if}
use borrow.Author.Tests.{not-false}
use Rattle.sheet.proofs.slate.clearing.clear_all.Goals.{Else-not-head}
use Rattle.sheet.proofs.slate.clearing.clear_all.Goals as goal

waits : (a : Else-not-head) → Waits a.args.head (rules_in a.args.rows.now) a.args.marks.now
waits a = waits_if a.requires (not-false _ a.if-not-head.false)

pub clear-requires : goal.clear-requires
clear-requires c = (omega arith, omega arith, c.requires.room.rows_places)

pub clear_marks-requires : goal.clear_marks-requires
clear_marks-requires c = (omega arith, omega arith, c.requires.room.marks_places)

pub returns-then-not-head : goal.returns-then-not-head
returns-then-not-head c = record { rows_after = emptied (rules_in c.args.rows.now) _ 0 RULES RULES no_rule (omega arith) (omega arith) (ap rules_in c.clear.ensures ∙ rules_cleared c.args.rows.now 0 RULES) (past_all (rules_in c.args.rows.now) RULES no_rule (rules_places c.requires.room)); marks_after = emptied c.args.marks.now _ 0 MARKS MARKS 0 (omega arith) (omega arith) c.clear_marks.ensures (past_all c.args.marks.now MARKS 0 c.requires.room.marks_places) }

pub clear-requires-2 : goal.clear-requires-2
clear-requires-2 c = (omega arith, (waits (goal.at.clear-requires-2 c).Else-not-head).given_high, c.requires.room.rows_places)

pub overflow_add-head : goal.overflow_add-head
overflow_add-head c = omega (arith, (waits (goal.at.overflow_add-head c).Else-not-head).marks_high)

pub clear_marks-requires-2 : goal.clear_marks-requires-2
clear_marks-requires-2 c = let w = waits (goal.at.clear_marks-requires-2 c).Else-not-head in (omega arith, w.marks_high, w.marks_places)

pub returns : goal.returns
returns c =
    let w = waits (goal.at.returns c).Else-not-head in record { rows_after = emptied (rules_in c.args.rows.now) _ 0 c.args.head.counts.given RULES no_rule (omega arith) w.given_high (ap rules_in c.clear-2.ensures ∙ rules_cleared c.args.rows.now 0 c.args.head.counts.given) w.rules_after; marks_after = emptied c.args.marks.now _ 0 (c.args.head.counts.marked + c.args.head.counts.waiting) MARKS 0 (omega arith) w.marks_high c.clear_marks-2.ensures w.marks_after }
