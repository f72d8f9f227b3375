-- `blank` meets its contract: the blank record is written down. Assumes nothing.
use mathlib.Core.Path.{ap, ◌∙◌}
use Rattle.keeping.specs.kept_numbers.Numbers.{numbers_of}
use Rattle.keeping.proofs.bare_calls.blank.Goals as goal

pub returns : goal.returns
returns c = c.written.ensures ∙ ap numbers_of c.blank.ensures
