use mathlib.Core.Path.{◌≡◌}
use mathlib.Core.Bool.{Bool, true, false}
use Prim.Native.Nat.{ℕ, suc, ◌+◌, ◌-◌, ◌≤◌}
use lib.ListN.{take}
use Rattle.std.specs.Prelude.{None}
use Rattle.word.specs.Word.{top}
use Rattle.rule.specs.band.route.Band.{all_hold}
use Rattle.search.specs.rows.route.Bands.{all_seen}
use Rattle.search.specs.rows.route.Rows.{bands_in}
use Rattle.search.specs.leap.route.Leapt.{NoneFrom}
use Rattle.search.specs.declared.sweep.Walked.TheVariants as walked
use Rattle.search.proofs.sweep.walk.Given as goal

-- the looks that are left: at the bands from i on and, until all are gone through, at all of them after that
unfoldable pub looks : Bool → ℕ → ℕ → ℕ
looks true n i = n - i
looks false n i = suc n + (n - i)

abbrev pub invariant-loop-i : goal.invariant-loop-i
invariant-loop-i l =
    (l.i ≤ l.n) × (l.p ≡ l.x) × (l.found ≡ l.initial.found) × (l.patience ≡ 0 → l.left ≡ 0) × (l.all ≡ true → all_hold (take l.i (all_seen l.turned l.top (take l.n (bands_in l.rows)))) l.p ≡ true)

abbrev pub decreases-loop-i : goal.decreases-loop-i
decreases-loop-i l = looks l.all l.n l.i

abbrev pub invariant-words : goal.invariant-words
invariant-words l =
    (l.i ≤ l.n) × (l.start ≤ l.p) × (l.p ≤ l.top) × (l.found ≡ walked.Nothing) × (l.patience ≡ 0 → l.left ≡ 0) × NoneFrom (all_seen l.turned l.top (take l.n (bands_in l.rows))) l.force.fixed l.start l.p

abbrev pub decreases-words : goal.decreases-words
decreases-words l = l.top - l.p
