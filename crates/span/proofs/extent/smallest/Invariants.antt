use Rattle.span.proofs.extent.Way.{Way}
use Rattle.span.proofs.extent.smallest.Given as goal

abbrev pub invariant-loop-bits : goal.invariant-loop-bits
invariant-loop-bits g l = Way g.B.Bitwise.value l.initial.bits l.initial.p l.initial.q l.bits l.p l.q l.found
