-- `facing` meets its contract. Assumes nothing.
use Rattle.search.specs.rows.route.Bands.{faced}
use Rattle.search.proofs.rows.facing.Goals as goal

pub returns-then-not-turned : goal.returns-then-not-turned
unfolding faced
returns-then-not-turned c = rw (c.if-not-turned.true)

pub returns : goal.returns
unfolding faced
returns c = rw (c.if-not-turned.false)
