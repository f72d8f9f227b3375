-- `And::step` meets its contract: AND has the bit of the half just where both words have it. Assumes nothing.
use native.Mathlib.Omega.{arith}
use Rattle.span.specs.steps.route.Step.{Right}
use Rattle.span.proofs.steps.Halves.{high, low, opened}
use Rattle.span.specs.steps.Bitwise.{and_bitwise}
use Rattle.span.proofs.steps.Settled.{and_zero, and_zero_y}
use Rattle.span.proofs.steps.AndBitwise.step.Goals as goal

pub returns-then-y-half : goal.returns-then-y-half
unfolding Right
returns-then-y-half c =
    and_zero_y c.args.width.bits c.requires.words.1.order (omega arith) (record { low = omega arith; high = omega arith })

pub returns-then-half-x : goal.returns-then-half-x
unfolding Right
returns-then-half-x c =
    opened and_bitwise c.requires.width c.requires.words low high (omega arith) (omega arith)
    (λ a b. omega arith) (λ a b. omega arith) (λ a b. omega arith)
    c.half-half.ensures (omega arith) c.lower.ensures c.upper.ensures

pub returns-then-half-y : goal.returns-then-half-y
unfolding Right
returns-then-half-y c =
    and_zero c.args.width.bits c.requires.words.0.order (omega arith) (record { low = omega arith; high = omega arith })

pub returns-then-y-half-2 : goal.returns-then-y-half-2
unfolding Right
returns-then-y-half-2 c =
    opened and_bitwise c.requires.width c.requires.words low low (omega arith) (omega arith)
    (λ a b. omega arith) (λ a b. omega arith) (λ a b. omega arith)
    c.half-half.ensures (omega arith) c.lower-then-y-half-2.ensures c.lower-then-y-half-2-2.ensures

pub returns-then-x-half : goal.returns-then-x-half
unfolding Right
returns-then-x-half c =
    opened and_bitwise c.requires.width c.requires.words low high (omega arith) (omega arith)
    (λ a b. omega arith) (λ a b. omega arith) (λ a b. omega arith)
    c.half-half.ensures (omega arith) c.lower-then-x-half.ensures c.upper-then-x-half.ensures

pub returns-then-y-half-3 : goal.returns-then-y-half-3
unfolding Right
returns-then-y-half-3 c =
    opened and_bitwise c.requires.width c.requires.words high low (omega arith) (omega arith)
    (λ a b. omega arith) (λ a b. omega arith) (λ a b. omega arith)
    c.half-half.ensures (omega arith) c.upper-then-y-half-3.ensures c.lower-then-y-half-3.ensures

pub returns : goal.returns
unfolding Right
returns c =
    opened and_bitwise c.requires.width c.requires.words high high (omega arith) (omega arith)
    (λ a b. omega arith) (λ a b. omega arith) (λ a b. omega arith)
    c.half-half.ensures (omega arith) c.upper-2.ensures c.upper-3.ensures
