-- What is counted so far is the sum of what was given so far.
use Rattle.std.proofs.Common.{◌≡◌, fold}
use Rattle.trial.proofs.trial_tally.total.Given as goal

abbrev pub invariant-loop-count : goal.invariant-loop-count
invariant-loop-count g l = l.sum ≡ fold g.C.Count.both g.C.Count.empty l.yielded
