-- `Band::turned` meets its contract. Assumes nothing.
use Rattle.std.proofs.Common.{refl}
use Rattle.rule.specs.band.route.Band.{turned_band}
use Rattle.rule.proofs.band.Band.turned.Goals as goal

pub returns : goal.returns
unfolding turned_band
returns c = refl
