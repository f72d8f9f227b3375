-- `smallest` meets its contract. The loop's invariant: the way down the bits. Assumes nothing.
use mathlib.Core.Path.{◌≡◌, subst}
use native.Mathlib.Omega.{arith}
use lib.Pow.{pow_mono}
use Rattle.word.proofs.Widths.{top-suc}
use Rattle.span.specs.steps.route.Step.{Right}
use Rattle.span.proofs.extent.Way.{fits, is_smallest, way_end, way_on, way_start}
use Rattle.span.proofs.extent.smallest.Goals as goal

pub loop-bits-init : goal.loop-bits-init
loop-bits-init g c = way_start c.requires.words

pub step-requires-clause-words : goal.step-requires-clause-words
step-requires-clause-words g c = (c.loop-bits.invariant.p_words, c.loop-bits.invariant.q_words)

-- what is settled, with what was found before
pub overflow_add-result : goal.overflow_add-result
unfolding Right
overflow_add-result g c =
    let settled = c.loop-bits.invariant.carries _ (subst (Right c.loop-bits.bits _ c.loop-bits.p c.loop-bits.q) c.in-Settled.is c.step.ensures) in
    record { fits = fits g.met.B.Bitwise.bitwise c.requires.words c.requires.width.high settled }

pub returns-in-Settled : goal.returns-in-Settled
unfolding Right
returns-in-Settled g c =
    is_smallest g.met.B.Bitwise.bitwise c.requires.words
    (c.loop-bits.invariant.carries _ (subst (Right c.loop-bits.bits _ c.loop-bits.p c.loop-bits.q) c.in-Settled.is c.step.ensures))

-- a bit further down
pub loop-bits-preserved : goal.loop-bits-preserved
unfolding Right
loop-bits-preserved g c =
    way_on (omega arith) c.loop-bits.invariant (subst (Right c.loop-bits.bits _ c.loop-bits.p c.loop-bits.q) c.in-Open.is c.step.ensures)

pub overflow_add-found : goal.overflow_add-found
unfolding Right
overflow_add-found g c =
    let on = way_on (omega arith) c.loop-bits.invariant (subst (Right c.loop-bits.bits _ c.loop-bits.p c.loop-bits.q) c.in-Open.is c.step.ensures) in
    record { fits = omega (arith, on.room, top-suc c.args.width.bits, pow_mono {i = c.args.width.bits} {j = 64} c.requires.width.high) }

pub returns : goal.returns
returns g c =
    let e : c.loop-bits.bits ≡ 0 = omega arith in
    way_end g.met.B.Bitwise.bitwise c.requires.words (rw e at c.loop-bits.invariant)
