use Prim.Native.Nat.{◌-◌}
use Rattle.net.specs.route.Run.{stand}
use Rattle.net.proofs.Going.{Walk}
use Rattle.net.proofs.Net.walk.Given as goal

abbrev pub invariant-turns : goal.invariant-turns
invariant-turns l = Walk l.self.width l.self.joins l.self.joined l.initial.words l.pay (stand l.words l.steps l.quiet l.empty)

abbrev pub decreases-turns : goal.decreases-turns
decreases-turns l = l.pay - l.steps
