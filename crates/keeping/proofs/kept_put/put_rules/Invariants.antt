use mathlib.Core.Path.{◌≡◌}
use Prim.Native.Nat.{◌*◌}
use lib.Seq.{paste}
use Rattle.keeping.specs.kept_numbers.Numbers.{RULES_AT, flat}
use Rattle.keeping.proofs.kept_put.put_rules.Given as goal

-- the rules passed are put, and the other numbers are as they were
abbrev pub invariant-loop-place : goal.invariant-loop-place
invariant-loop-place l = l.numbers ≡ paste l.initial.numbers RULES_AT (flat l.fn.rules) (4 * l.place)
