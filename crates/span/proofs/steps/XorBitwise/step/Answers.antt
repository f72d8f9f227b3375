-- `Xor::step` meets its contract: XOR lacks the bit of the half just where both words lie on one side. Assumes nothing.
use native.Mathlib.Omega.{arith}
use Rattle.span.specs.steps.route.Step.{Right}
use Rattle.span.proofs.steps.Halves.{high, low, opened}
use Rattle.span.specs.steps.Bitwise.{xor_bitwise}
use Rattle.span.proofs.steps.Settled.{xor_zero}
use Rattle.span.proofs.steps.XorBitwise.step.Goals as goal

pub returns-then-half-y : goal.returns-then-half-y
unfolding Right
returns-then-half-y c =
    opened xor_bitwise c.requires.width c.requires.words low high (omega arith) (omega arith)
    (λ a b. omega arith) (λ a b. omega arith) (λ a b. omega arith)
    c.half-half.ensures (omega arith) c.lower.ensures c.upper.ensures

pub returns-then-x-half : goal.returns-then-x-half
unfolding Right
returns-then-x-half c =
    opened xor_bitwise c.requires.width c.requires.words low low (omega arith) (omega arith)
    (λ a b. omega arith) (λ a b. omega arith) (λ a b. omega arith)
    c.half-half.ensures (omega arith) c.lower-then-x-half.ensures c.lower-then-x-half-2.ensures

pub returns-then-half-y-2 : goal.returns-then-half-y-2
unfolding Right
returns-then-half-y-2 c =
    opened xor_bitwise c.requires.width c.requires.words high high (omega arith) (omega arith)
    (λ a b. omega arith) (λ a b. omega arith) (λ a b. omega arith)
    c.half-half.ensures (omega arith) c.upper-then-half-y-2.ensures c.upper-then-half-y-2-2.ensures

pub returns-then-half-x : goal.returns-then-half-x
unfolding Right
returns-then-half-x c =
    opened xor_bitwise c.requires.width c.requires.words high low (omega arith) (omega arith)
    (λ a b. omega arith) (λ a b. omega arith) (λ a b. omega arith)
    c.half-half.ensures (omega arith) c.upper-then-half-x.ensures c.lower-then-half-x.ensures

pub returns-then-y-half : goal.returns-then-y-half
unfolding Right
returns-then-y-half c =
    opened xor_bitwise c.requires.width c.requires.words low low (omega arith) (omega arith)
    (λ a b. omega arith) (λ a b. omega arith) (λ a b. omega arith)
    c.half-half.ensures (omega arith) c.lower-then-y-half.ensures c.lower-then-y-half-2.ensures

pub returns-then-half-y-3 : goal.returns-then-half-y-3
unfolding Right
returns-then-half-y-3 c =
    opened xor_bitwise c.requires.width c.requires.words high high (omega arith) (omega arith)
    (λ a b. omega arith) (λ a b. omega arith) (λ a b. omega arith)
    c.half-half.ensures (omega arith) c.upper-then-half-y-3.ensures c.upper-then-half-y-3-2.ensures

pub returns : goal.returns
unfolding Right
returns c =
    xor_zero c.args.width.bits (record { low = omega arith; high = omega arith }) (record { low = omega arith; high = omega arith })
