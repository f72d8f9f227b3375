-- `add` meets its contract: what waited is taken away, the rule goes into the next row with its band and a note, and what is kept is as it
-- was or found from the old ends. Assumes nothing.
use mathlib.Core.Path.{◌≡◌, sym, ◌∙◌, subst}
use Prim.Native.Nat.{◌<◌}
use native.Mathlib.Omega.{arith}
use borrow.Author.Rules.{rules}
use Rattle.rule.specs.Meaning.{RULES}
use Rattle.sheet.specs.declared.slate.Head.{Head}
use Rattle.sheet.specs.slate.route.Numbers.{before, rule_number}
use Rattle.sheet.proofs.slate.Holding.{waits_so, width_so}
use Rattle.sheet.specs.slate.slate_calls.route.Done.{Adds}
use Rattle.sheet.specs.slate.slate_calls.route.Done.Adds.{added, refused}
use Rattle.sheet.proofs.slate.slate_add.Added.{beside_added, kept_added, narrows, next_free, none_before, rules_added}
use Rattle.sheet.proofs.slate.slate_add.add.Goals.{Else-is_refused}
use Rattle.sheet.proofs.slate.slate_add.add.Goals as goal

accepted : (a : Else-is_refused) → rule_number a.args.head a.args.edition a.args.rule ≡ 0
accepted a = sym a.refuses_rule-number.ensures ∙ a.if-is_refused.false

none : (a : Else-is_refused) → before a.args.head.stands a.args.head.opening.width ≡ 0
none a = none_before a.requires _ _ (accepted a)

free : (a : Else-is_refused) → a.args.head.counts.count < RULES
free a = next_free a.requires _ _ (accepted a)

pub refuses_rule-number-requires : goal.refuses_rule-number-requires
refuses_rule-number-requires c = width_so c.requires

pub returns-then-is_refused : goal.returns-then-is_refused
returns-then-is_refused c = refused c.refuses_rule-number.ensures c.if-is_refused.true

pub overflow_add-next : goal.overflow_add-next
overflow_add-next c = omega (arith, free (goal.at.overflow_add-next c).Else-is_refused)

pub clear_waiting-requires : goal.clear_waiting-requires
clear_waiting-requires c = waits_so c.requires (none (goal.at.clear_waiting-requires c).Else-is_refused)

pub of-band-requires : goal.of-band-requires
of-band-requires c = width_so c.requires (none (goal.at.of-band-requires c).Else-is_refused)

pub put-requires : goal.put-requires
put-requires c = free (goal.at.put-requires c).Else-is_refused

pub narrowed-kept-requires : goal.narrowed-kept-requires
narrowed-kept-requires c =
    narrows c.requires _ _ (accepted (goal.at.narrowed-kept-requires c).Else-is_refused) _ _ _ _ c.clear_waiting.ensures.rows_after c.of-band.ensures c.put.ensures c.with-fixed.ensures

pub put_note-requires : goal.put_note-requires
put_note-requires c = omega (arith, free (goal.at.put_note-requires c).Else-is_refused)

pub returns : goal.returns
returns c =
    let rules = rules_added c.requires _ _ (accepted (goal.at.returns c).Else-is_refused) _ _ _ _ c.clear_waiting.ensures.rows_after c.of-band.ensures c.put.ensures c.with-fixed.ensures _ c.narrowed-kept.ensures c.put_note.new.rows c.put_note.ensures in
    let beside = beside_added c.requires _ _ (accepted (goal.at.returns c).Else-is_refused) _ _ _ _ c.clear_waiting.ensures.rows_after c.of-band.ensures c.put.ensures c.with-fixed.ensures _ c.narrowed-kept.ensures c.put_note.new.rows c.put_note.ensures in
    let found = kept_added c.requires _ _ (accepted (goal.at.returns c).Else-is_refused) _ _ _ _ c.clear_waiting.ensures.rows_after c.of-band.ensures c.put.ensures c.with-fixed.ensures _ c.narrowed-kept.ensures c.put_note.new.rows c.put_note.ensures in
    subst (λ (k : Head). Adds c.args.head c.args.rows.now c.args.marks.now c.args.edition c.args.rule 0 k c.put_note.new.rows c.clear_waiting.new.marks) (sym c.of-head.ensures)
    (added _ _ (accepted (goal.at.returns c).Else-is_refused) rules c.clear_waiting.ensures.marks_after beside found)
