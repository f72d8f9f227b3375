-- `clear_waiting` meets its contract: no mark lies after those that wait. Assumes nothing.
use mathlib.Core.Path.{sym, ◌∙◌}
use Prim.Native.Nat.{◌+◌}
use native.Mathlib.Omega.{arith}
use lib.ListN.{length-map}
use Rattle.search.specs.rows.route.Rows.{rule_in}
use Rattle.page.specs.Page.{MARKS}
use Rattle.sheet.proofs.slate.Cleared.{emptied}
use Rattle.sheet.proofs.slate.clearing.clear_waiting.Goals as goal

pub clear-requires : goal.clear-requires
clear-requires c =
    (omega (arith, c.requires.given_low), c.requires.given_high, sym (length-map c.args.rows.now rule_in) ∙ c.requires.rules_places)

pub overflow_add-marked : goal.overflow_add-marked
overflow_add-marked c = omega (arith, c.requires.marks_high)

pub clear_marks-requires : goal.clear_marks-requires
clear_marks-requires c = (omega arith, omega (arith, c.requires.marks_high), c.requires.marks_places)

pub returns : goal.returns
returns c = record { rows_after = c.clear.ensures; marks_after = emptied c.args.marks.now _ c.args.head.counts.marked (c.args.head.counts.marked + c.args.head.counts.waiting) MARKS 0 (omega arith) c.requires.marks_high c.clear_marks.ensures c.requires.marks_after }
