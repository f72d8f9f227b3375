use mathlib.Core.Path.{◌≡◌}
use lib.Seq.{paste}
use Rattle.keeping.specs.kept_numbers.Numbers.{HEAD}
use Rattle.keeping.proofs.kept_put.put_marks.Given as goal

-- the marks passed are put, and the other numbers are as they were
abbrev pub invariant-loop-place : goal.invariant-loop-place
invariant-loop-place l = l.numbers ≡ paste l.initial.numbers HEAD l.fn.marks l.place
