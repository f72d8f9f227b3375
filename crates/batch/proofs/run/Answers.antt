-- `run` meets its contract: all rules are given that are read. Assumes nothing.
use Rattle.batch.specs.course.Batch.{batch}
use Rattle.batch.specs.course.route.Route.{batch_at}
use Rattle.batch.proofs.run.Goals as goal

pub returns : goal.returns
unfolding batch batch_at
returns c = c.answered.ensures
