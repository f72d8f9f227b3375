-- `add` meets its contract: the rule is added to the record that the numbers are. Assumes nothing.
use mathlib.Core.Path.{subst}
use Rattle.page.specs.Calls.{Call, add}
use Rattle.sheet.specs.Statements.{Outcome}
use Rattle.outside.specs.handing.Handed.{edition_of, rule_in}
use Rattle.keeping.proofs.kept_changes.Changes.{changed}
use Rattle.keeping.proofs.on_sheets.add.Goals as goal

pub returns : goal.returns
unfolding Outcome
returns c =
    changed c.args.numbers.now c.read.ensures.numbers_len (add (edition_of c.args.edition) (rule_in c.args.rule.now)) c.read.ensures.value c.add-answer.result
    (subst (λ (x : Call). Outcome c.read.result x c.add-answer.result) (λ j. add (c.edition_of.ensures j) (c.rule_in.ensures j)) c.add-answer.ensures)
    c.keep.ensures.value c.keep.ensures.numbers_after
