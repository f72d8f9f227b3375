use Rattle.std.proofs.Common.{◌≡◌, map, ◌++◌, drop, take}
use Rattle.std.specs.Fn.{FnReturnsAt}
use Rattle.outside.proofs.over.lay_over.Given as goal

-- the elements passed are laid, and the other places are as they were
abbrev pub invariant-loop-place : goal.invariant-loop-place
invariant-loop-place g l =
    (f : _ → _) → ((a : _) (t : _) → FnReturnsAt g.F.Fn l.read a t → t ≡ f a) → l.onto ≡ take l.place (map f l.from) ++ drop l.place l.initial.onto
