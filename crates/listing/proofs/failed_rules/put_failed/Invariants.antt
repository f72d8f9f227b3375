use mathlib.Core.Path.{◌≡◌}
use lib.ListN.{length, take}
use Rattle.counting.specs.fitting.Words.{at_start}
use Rattle.listing.specs.failed_rules.Failed.{failed}
use Rattle.listing.proofs.failed_rules.put_failed.Given as goal

abbrev pub invariant-loop-number : goal.invariant-loop-number
invariant-loop-number l =
    (l.written ≡ length (failed l.width.bits l.x 0 (take l.number l.rules))) × (l.out ≡ at_start (failed l.width.bits l.x 0 (take l.number l.rules)) l.initial.out)
