use mathlib.Core.Path.{◌≡◌}
use mathlib.Core.Bool.{true}
use mathlib.Core.List.{List}
use Prim.Native.Nat.{ℕ, ◌+◌, ◌-◌, ◌≤◌}
use lib.ListN.{length}
use Rattle.word.specs.Search.{passing}
use Rattle.listing.specs.putting.route.Put.{put_at}
use Rattle.listing.proofs.putting.put_run.Given as goal

-- the words from a to below q
abbrev pub from_to : ℕ → ℕ → List ℕ
from_to a q = passing (λ (y : ℕ). true) (q - a) a

abbrev pub invariant-loop-at : goal.invariant-loop-at
invariant-loop-at l =
    (l.initial.x ≤ l.x) × (l.x ≤ l.last) × (l.at ≡ l.place + length (from_to l.initial.x l.x)) × (l.at ≤ length l.initial.out) × (l.out ≡ put_at l.initial.out l.place (from_to l.initial.x l.x))

abbrev pub decreases-loop-at : goal.decreases-loop-at
decreases-loop-at l = l.last - l.x
