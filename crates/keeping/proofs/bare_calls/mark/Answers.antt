-- `mark` meets its contract: a mark is set on the record that the numbers are. Assumes nothing.
use Rattle.page.specs.Calls.{mark}
use Rattle.sheet.specs.Statements.{Outcome}
use Rattle.keeping.proofs.kept_changes.Changes.{changed}
use Rattle.keeping.proofs.bare_calls.mark.Goals as goal

pub returns : goal.returns
unfolding Outcome
returns c =
    changed c.args.numbers.now c.read.ensures.numbers_len mark c.read.ensures.value c.mark.result c.mark.ensures c.keep.ensures.value c.keep.ensures.numbers_after
