-- `back` meets its contract: the step back is taken on the record that the numbers are. Assumes nothing.
use Rattle.page.specs.Calls.{back}
use Rattle.sheet.specs.Statements.{Outcome}
use Rattle.keeping.proofs.kept_changes.Changes.{changed}
use Rattle.keeping.proofs.bare_calls.back.Goals as goal

pub returns : goal.returns
unfolding Outcome
returns c =
    changed c.args.numbers.now c.read.ensures.numbers_len back c.read.ensures.value c.back.result c.back.ensures c.keep.ensures.value c.keep.ensures.numbers_after
