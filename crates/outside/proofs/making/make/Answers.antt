-- `make` meets its contract. The loop's invariant: the list is on its way to its sheet. Assumes nothing.
use mathlib.Core.Path.{◌≡◌, ◌∙◌, subst}
use Prim.Native.Nat.{ℕ}
use native.Mathlib.Omega.{arith}
use Rattle.rule.specs.declared.Rule.{Rule}
use Rattle.page.specs.Calls.{add, open_at}
use Rattle.sheet.specs.declared.Sheet.{Sheet}
use Rattle.sheet.specs.Statements.{Outcome}
use Rattle.outside.specs.handing.Handed.{rules_in}
use Rattle.outside.proofs.handing.Rows.{as_many, rule_of_row}
use Rattle.outside.specs.making.Made.{given, makes}
use Rattle.outside.proofs.making.Way.{added, all_added, opened, refused_at, refused_opening, refused_rule}
use Rattle.outside.proofs.making.make.Goals as goal

pub returns-then-opened-ne0 : goal.returns-then-opened-ne0
returns-then-opened-ne0 c =
    subst (λ (n : ℕ). refused_at c.open-opened.result.number n c.open-opened.result.sheet ≡ given (makes c.args.opening (rules_in c.args.rules.now))) (as_many c.args.rules.now)
    (refused_opening c.args.opening (rules_in c.args.rules.now) c.open-opened.result
    (subst (λ (s : Sheet). Outcome s (open_at c.args.opening) c.open-opened.result) c.blank.ensures c.open-opened.ensures)
    c.if-opened-ne0.true)

pub loop-place-init : goal.loop-place-init
loop-place-init c =
    opened c.args.opening (rules_in c.args.rules.now) c.open-opened.result
    (subst (λ (s : Sheet). Outcome s (open_at c.args.opening) c.open-opened.result) c.blank.ensures c.open-opened.ensures)
    c.if-opened-ne0.false

pub returns-then-answer-ne0 : goal.returns-then-answer-ne0
returns-then-answer-ne0 c =
    refused_rule c.args.opening (rules_in c.args.rules.now) c.loop-place.place c.loop-place.sheet c.loop-place.invariant (omega (arith, as_many c.args.rules.now)) c.add-answer.result
    (subst (λ (u : Rule). Outcome c.loop-place.sheet (add c.args.opening.edition u) c.add-answer.result) (c.rule_in.ensures ∙ rule_of_row c.args.rules.now c.loop-place.place) c.add-answer.ensures)
    c.if-answer-ne0.true

pub loop-place-preserved : goal.loop-place-preserved
loop-place-preserved c =
    added c.args.opening (rules_in c.args.rules.now) c.loop-place.place c.loop-place.sheet c.loop-place.invariant (omega (arith, as_many c.args.rules.now)) c.add-answer.result
    (subst (λ (u : Rule). Outcome c.loop-place.sheet (add c.args.opening.edition u) c.add-answer.result) (c.rule_in.ensures ∙ rule_of_row c.args.rules.now c.loop-place.place) c.add-answer.ensures)
    c.if-answer-ne0.false

pub returns : goal.returns
returns c =
    all_added c.args.opening (rules_in c.args.rules.now) c.loop-place.place c.loop-place.sheet c.loop-place.invariant (omega (arith, as_many c.args.rules.now))
