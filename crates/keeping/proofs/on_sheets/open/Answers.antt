-- `open` meets its contract: what a blank sheet's opening answers is kept where it is accepted. Assumes nothing.
use mathlib.Core.Path.{ap, ◌∙◌}
use Rattle.page.specs.declared.Opening.{Opening}
use Rattle.sheet.specs.Statements.{Outcome, opened}
use Rattle.outside.specs.handing.Handed.{opening_of}
use Rattle.keeping.proofs.kept_changes.Changes.{opens}
use Rattle.keeping.proofs.on_sheets.open.Goals as goal

pub returns : goal.returns
unfolding Outcome
returns c =
    opens (opening_of c.args.width c.args.edition) c.blank.result c.«open».result (c.«open».ensures ∙ ap (λ (x : Opening). opened c.blank.result x) c.opening.ensures)
    c.keep.ensures.value c.keep.ensures.numbers_after
