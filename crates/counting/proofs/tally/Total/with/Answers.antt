-- `Total::with` meets its contract: the words of a stretch that have the bits are those below its last word that are not below its first,
-- and the last one if it has them. Assumes nothing.
use mathlib.Core.Path.{◌≡◌, sym, ap, ◌∙◌, subst}
use mathlib.Core.Bool.{Bool}
use Prim.Native.Nat.{ℕ, suc, ◌+◌, ◌-◌}
use native.Mathlib.Omega.{arith}
use Rattle.word.specs.Search.{count}
use Rattle.rule.specs.bits.route.Fixed.{has_bits}
use Rattle.counting.specs.declared.tally.Total.{Total}
use Rattle.counting.specs.tally.route.Total.{Carries, totals, whole}
use Rattle.rule.proofs.rank.Pairs.{count_most}
use Rattle.counting.proofs.tally.Sums.{below_to, carries_totals, words_with, words_without, whole-totals}
use Rattle.counting.proofs.tally.Total.with.Goals.{After-below-2}
use Rattle.counting.proofs.tally.Total.with.Goals as goal

abbrev has : After-below-2 → ℕ → Bool
has b = has_bits b.args.fixed

between : (b : After-below-2) → b.below.result ≡ b.below-2.result + count (has b) (b.args.last - b.args.first) b.args.first
between b =
    omega (arith, b.below.ensures, b.below-2.ensures, below_to (has b) b.args.first b.args.last b.requires.1)

pub overflow_sub-below : goal.overflow_sub-below
overflow_sub-below c = omega (arith, between (goal.at.overflow_sub-below c).After-below-2)

pub plus-requires : goal.plus-requires
plus-requires c =
    let most = count_most (has (goal.at.plus-requires c).After-below-2) (c.args.last - c.args.first) c.args.first in
    subst Carries (sym c.plus-total.ensures) (carries_totals _ (omega (arith, between (goal.at.plus-requires c).After-below-2, most, c.requires.1, c.requires.3)))

pub returns-then-has : goal.returns-then-has
returns-then-has c =
    let more : ℕ = c.below.result - c.below-2.result in
    let e : whole (totals (whole c.args.self + more)) + 1 ≡ whole c.args.self + count (has (goal.at.returns-then-has c).After-below-2) (suc c.args.last - c.args.first) c.args.first =
    omega (arith, whole-totals (whole c.args.self + more), words_with (has (goal.at.returns-then-has c).After-below-2) c.args.first c.args.last c.requires.1 (sym c.has.ensures ∙ c.if-has.true), c.below.ensures, c.below-2.ensures) in
    c.plus.ensures ∙ ap (λ (t : Total). totals (whole t + 1)) c.plus-total.ensures ∙ ap totals e

pub returns : goal.returns
returns c =
    let more : ℕ = c.below.result - c.below-2.result in
    let e : whole c.args.self + more ≡ whole c.args.self + count (has (goal.at.returns c).After-below-2) (suc c.args.last - c.args.first) c.args.first =
    omega (arith, words_without (has (goal.at.returns c).After-below-2) c.args.first c.args.last c.requires.1 (sym c.has.ensures ∙ c.if-has.false), c.below.ensures, c.below-2.ensures) in
    c.plus-total.ensures ∙ ap totals e
