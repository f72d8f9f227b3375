use mathlib.Core.Path.{◌≡◌}
use mathlib.Core.List.{◌++◌}
use lib.ListN.{drop, take}
use Rattle.keeping.specs.kept_numbers.route.Reading.{marks_in}
use Rattle.keeping.proofs.kept_read.marks_in.Given as goal

-- the marks passed are read, and the other places are as they were
abbrev pub invariant-loop-place : goal.invariant-loop-place
invariant-loop-place l = l.marks ≡ take l.place (marks_in l.fn.numbers) ++ drop l.place l.initial.marks
