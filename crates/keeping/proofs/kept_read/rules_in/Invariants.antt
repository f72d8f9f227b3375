use mathlib.Core.Path.{◌≡◌}
use mathlib.Core.List.{◌++◌}
use lib.ListN.{drop, take}
use Rattle.keeping.specs.kept_numbers.route.Reading.{rules_in}
use Rattle.keeping.proofs.kept_read.rules_in.Given as goal

-- the rules passed are read, and the other places are as they were
abbrev pub invariant-loop-place : goal.invariant-loop-place
invariant-loop-place l = l.rules ≡ take l.place (rules_in l.fn.numbers) ++ drop l.place l.initial.rules
