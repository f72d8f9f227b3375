-- `Band::of` meets its contract. Assumes nothing.
use Rattle.std.proofs.Common.{ap, ◌∙◌}
use Rattle.rule.specs.band.route.Band.{band_of, by_sense, seamless}
use Rattle.rule.proofs.band.Band.of.Goals as goal

pub returns : goal.returns
unfolding band_of
returns c =
    c.by_sense.ensures
    ∙ ap (by_sense _) (c.seamless.ensures ∙ ap (seamless _) c.written.ensures)
