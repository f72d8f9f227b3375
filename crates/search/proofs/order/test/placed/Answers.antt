-- `placed` meets its contract. The loop's invariant: the numbers passed stand at their places. The measure is the numbers left. Assumes nothing.
use mathlib.Core.Path.{◌≡◌, subst}
use mathlib.Core.Bool.{false≢true}
use Prim.Native.Nat.{◌-◌}
use native.Mathlib.Omega.{arith}
use borrow.Author.Count.{below_more}
use Rattle.search.specs.order.route.Order.{AllPlaced}
use Rattle.search.proofs.order.test.placed.Goals as goal

pub loop-i-init : goal.loop-i-init
loop-i-init c = (omega arith, λ j h. absurd (omega arith))

pub returns-then-n-k : goal.returns-then-n-k
returns-then-n-k c = λ e. absurd (false≢true e)

pub returns-then-is_elsewhere : goal.returns-then-is_elsewhere
returns-then-is_elsewhere c = λ e. absurd (false≢true e)

pub loop-i-preserved : goal.loop-i-preserved
loop-i-preserved c =
    (omega arith, below_more _ _ c.loop-i.invariant.1 (_, omega arith, c.if-is_elsewhere.false))

pub returns : goal.returns
returns c =
    let done : c.loop-i.i ≡ c.args.n = omega arith in
    λ e. subst (AllPlaced c.args.n c.args.order.now) done c.loop-i.invariant.1
