-- `Total::plus` meets its contract. Assumes nothing.
use Rattle.counting.proofs.tally.Sums.{plus_totals}
use Rattle.counting.proofs.tally.Total.plus.Goals as goal

pub returns : goal.returns
returns c = plus_totals c.args.self _
