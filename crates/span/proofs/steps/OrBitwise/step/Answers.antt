-- `Or::step` meets its contract: OR lacks the bit of the half just where both words lack it. Assumes nothing.
use native.Mathlib.Omega.{arith}
use Rattle.span.specs.steps.route.Step.{Right}
use Rattle.span.proofs.steps.Halves.{high, low, opened}
use Rattle.span.specs.steps.Bitwise.{or_bitwise}
use Rattle.span.proofs.steps.Settled.{or_low, or_low_x}
use Rattle.span.proofs.steps.OrBitwise.step.Goals as goal

pub returns-then-y-half : goal.returns-then-y-half
unfolding Right
returns-then-y-half c =
    opened or_bitwise c.requires.width c.requires.words low low (omega arith) (omega arith)
    (λ a b. omega arith) (λ a b. omega arith) (λ a b. omega arith)
    c.half-half.ensures (omega arith) c.lower.ensures c.lower-then-y-half.ensures

pub returns-then-half-x : goal.returns-then-half-x
unfolding Right
returns-then-half-x c =
    or_low c.args.width.bits c.requires.width.low (record { low = omega arith; high = omega arith }) c.requires.words.1 (omega arith)

pub returns-then-x-half : goal.returns-then-x-half
unfolding Right
returns-then-x-half c =
    opened or_bitwise c.requires.width c.requires.words low high (omega arith) (omega arith)
    (λ a b. omega arith) (λ a b. omega arith) (λ a b. omega arith)
    c.half-half.ensures (omega arith) c.lower-then-x-half.ensures c.upper.ensures

pub returns-then-half-y : goal.returns-then-half-y
unfolding Right
returns-then-half-y c =
    or_low_x c.args.width.bits c.requires.width.low (record { low = omega arith; high = omega arith }) c.requires.words.0 (omega arith)

pub returns-then-y-half-2 : goal.returns-then-y-half-2
unfolding Right
returns-then-y-half-2 c =
    opened or_bitwise c.requires.width c.requires.words high low (omega arith) (omega arith)
    (λ a b. omega arith) (λ a b. omega arith) (λ a b. omega arith)
    c.half-half.ensures (omega arith) c.upper-then-y-half-2.ensures c.lower-then-y-half-2.ensures

pub returns : goal.returns
unfolding Right
returns c =
    opened or_bitwise c.requires.width c.requires.words high high (omega arith) (omega arith)
    (λ a b. omega arith) (λ a b. omega arith) (λ a b. omega arith)
    c.half-half.ensures (omega arith) c.upper-2.ensures c.upper-3.ensures
