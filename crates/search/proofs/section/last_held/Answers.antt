-- `last_held` meets its contract: the words that the band holds are those that its other side fails. Assumes nothing.
use mathlib.Core.Path.{ap, ◌∙◌}
use mathlib.Core.Bool.{not}
use Rattle.rule.proofs.band.Law.{other_holds}
use Rattle.search.proofs.section.Scan.{other_climb}
use Rattle.search.proofs.section.last_held.Goals as goal

pub run-requires : goal.run-requires
run-requires c =
    (record { from_word = c.requires.0.from_word; to_word = c.requires.0.to_word; no_seam = c.requires.0.no_seam }, c.requires.1, other_holds c.args.band c.args.p ∙ ap not c.requires.2)

pub returns : goal.returns
returns c = c.run.ensures.1 ∙ other_climb c.args.band _ _
