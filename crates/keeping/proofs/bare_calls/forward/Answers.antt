-- `forward` meets its contract: the step forward is taken on the record that the numbers are. Assumes nothing.
use Rattle.page.specs.Calls.{forward}
use Rattle.sheet.specs.Statements.{Outcome}
use Rattle.keeping.proofs.kept_changes.Changes.{changed}
use Rattle.keeping.proofs.bare_calls.forward.Goals as goal

pub returns : goal.returns
unfolding Outcome
returns c =
    changed c.args.numbers.now c.read.ensures.numbers_len forward c.read.ensures.value c.forward.result c.forward.ensures c.keep.ensures.value c.keep.ensures.numbers_after
