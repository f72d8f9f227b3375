-- `leap` meets its contract. The loop's invariant: no word from the start to p passes, whatever the order. The measure is the places left.
-- Assumes nothing.
use mathlib.Core.Path.{sym, subst}
use mathlib.Core.List.{List}
use Prim.Native.Nat.{ℕ, ◌-◌}
use native.Mathlib.Omega.{arith}
use lib.ListN.{take}
use Rattle.word.specs.Word.{top}
use Rattle.rule.specs.declared.band.Band.{Band}
use Rattle.search.specs.rows.route.Bands.{Lie, all_seen}
use Rattle.search.specs.rows.route.Rows.{bands_in}
use Rattle.search.proofs.leap.Steps.{further, leapt_out, leapt_to}
use Rattle.search.proofs.leap.leap.Goals.{At-loop-k}
use Rattle.search.proofs.leap.leap.Goals as goal

abbrev bands : At-loop-k → List Band
bands w = all_seen w.args.turned (top w.args.force.width.bits) (take w.args.force.count (bands_in w.args.rows.now))

pub sort-requires : goal.sort-requires
sort-requires c =
    subst (λ (t : ℕ). Lie t c.args.force.count (bands_in c.args.rows.now)) (sym c.top.ensures) c.requires.start_bound.1

pub loop-k-init : goal.loop-k-init
loop-k-init c = (omega arith, c.requires.start_bound.0, λ x a b. absurd (omega arith))

pub bounds-order-k : goal.bounds-order-k
bounds-order-k c = omega (arith, c.loop-k-test.true, c.requires.start_bound.1.count)

pub past-requires : goal.past-requires
past-requires c = record { width = c.requires.width; p_bound = (c.loop-k.invariant.1, c.requires.start_bound.1); tidy = c.requires.tidy }

pub returns-in_default : goal.returns-in_default
returns-in_default c =
    leapt_out (bands (goal.at.returns-in_default c).At-loop-k) _ _ _ (further (bands (goal.at.returns-in_default c).At-loop-k) _ _ _ _ c.loop-k.invariant.2 (c.past.ensures.nothing c.in_default.is))

pub loop-k-preserved : goal.loop-k-preserved
loop-k-preserved c =
    let l = c.past.ensures.word _ c.in-Some.is in
    (omega (arith, l.0, c.loop-k.invariant.0), l.1, further (bands (goal.at.loop-k-preserved c).At-loop-k) _ _ _ _ c.loop-k.invariant.2 l.2)

pub returns : goal.returns
returns c =
    leapt_to (bands (goal.at.returns c).At-loop-k) _ _ _ _ c.loop-k.invariant.0 c.loop-k.invariant.1 c.loop-k.invariant.2
