use Rattle.outside.specs.handing.Handed.{rules_in}
use Rattle.outside.specs.making.route.Way.{Under}
use Rattle.outside.proofs.making.make.Given as goal

abbrev pub invariant-loop-place : goal.invariant-loop-place
invariant-loop-place l = Under l.opening (rules_in l.rules) l.place l.sheet
