use mathlib.Core.Path.{◌≡◌}
use mathlib.Core.Bool.{true}
use mathlib.Core.List.{List}
use Prim.Native.Nat.{ℕ, ◌-◌, ◌≤◌, ◌<◌}
use lib.ListN.{length, take}
use Rattle.word.specs.Word.{top}
use Rattle.rule.specs.declared.Rule.{Rule}
use Rattle.rule.specs.declared.band.Band.{Band}
use Rattle.chain.proofs.Walk.{Walked}
use Rattle.search.specs.rows.route.Rows.{bands_in}
use Rattle.search.specs.rows.route.OfRules.{OfLawful}
use Rattle.search.specs.verdict.Kept.{kept}
use Rattle.search.specs.order.route.Order.{InOrder}
use Rattle.chain.specs.due.route.Due.{Begun, Ready}
use Rattle.chain.proofs.linking.write.Given as goal

-- the bands are in order, and the walk by it is ready at p
abbrev pub Sorted : (t n : ℕ) → List Band → List ℕ → (next p : ℕ) → Type 0
Sorted t n bands order next p = InOrder t n bands order × Ready t n bands order next p

abbrev pub invariant-loop-count : goal.invariant-loop-count
invariant-loop-count l =
    (l.p ≤ l.top)
    × (length l.out ≡ length l.initial.out)
    × ((rs : List Rule) → OfLawful l.width.bits (take l.n (bands_in l.rows)) l.fixed rs → (kept l.width.bits rs).verdict ≡ 0 → Walked l.width.bits rs l.initial.out l.out l.count l.p)
    × (0 < l.count → Begun (top l.width.bits) l.n (bands_in l.rows) l.p)
    × (l.sorted ≡ true → Sorted (top l.width.bits) l.n (bands_in l.rows) l.order l.next l.p)

abbrev pub decreases-loop-count : goal.decreases-loop-count
decreases-loop-count l = l.top - l.p
