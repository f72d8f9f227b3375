-- `gate` meets its contract: the gate is set on the record that the numbers are. Assumes nothing.
use mathlib.Core.Path.{ap, subst}
use Rattle.page.specs.Calls.{Call, set_gate}
use Rattle.sheet.specs.Statements.{Outcome}
use Rattle.outside.specs.on_words.Gates.{gate_of}
use Rattle.keeping.proofs.kept_changes.Changes.{changed}
use Rattle.keeping.proofs.on_sheets.gate.Goals as goal

pub returns : goal.returns
unfolding Outcome
returns c =
    changed c.args.numbers.now c.read.ensures.numbers_len (set_gate (gate_of c.args.kind c.args.low c.args.high)) c.read.ensures.value c.set-answer.result
    (subst (λ (x : Call). Outcome c.read.result x c.set-answer.result) (ap set_gate c.gate_of.ensures) c.set-answer.ensures)
    c.keep.ensures.value c.keep.ensures.numbers_after
