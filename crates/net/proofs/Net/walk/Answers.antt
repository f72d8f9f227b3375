-- `walk` meets its contract. The loop's invariant: what is left of the run comes to what the whole run comes to. The measure is the
-- steps that may still be paid for. Assumes nothing.
use mathlib.Core.Path.{◌≡◌}
use Prim.Native.Nat.{ℕ, ◌%◌, ◌≤◌, ◌<◌}
use native.Mathlib.Nat.{mod-lt}
use native.Mathlib.Omega.{arith}
use Rattle.net.specs.net_tests.Fits.{JOINS}
use Rattle.net.specs.Net.{turn}
use Rattle.net.specs.route.Run.{walked}
use Rattle.net.proofs.Going.{given_empty, walk_on, walk_start}
use Rattle.net.proofs.Net.walk.Goals.{Else-spent, Else-steady}
use Rattle.net.proofs.Net.walk.Goals as goal

-- the join whose turn it is has a place
turn_below : (steps joined : ℕ) → 0 < joined → joined ≤ JOINS → steps % joined < 32
turn_below steps joined h l = omega (arith, mod-lt steps h)

-- where the run goes on, not every join was quiet, and a step is left to pay for
unsteady : (n : Else-steady) → n.turns.quiet < n.args.self.joined
unsteady n = n.if-steady.false

unspent : (n : Else-spent) → n.turns.steps ≡ n.args.pay → ⊥
unspent n = n.if-spent.false

pub turns-init : goal.turns-init
turns-init c = walk_start _ _ _ _ _

pub returns-then-empty : goal.returns-then-empty
unfolding walked
returns-then-empty c = given_empty _ _ _ c.turns.invariant c.given.ensures c.if-empty.true

pub nonzero_rem-turn : goal.nonzero_rem-turn
nonzero_rem-turn c = omega (arith, unsteady (goal.at.nonzero_rem-turn c).Else-steady)

pub offset_bounds-self-turn : goal.offset_bounds-self-turn
offset_bounds-self-turn c =
    omega (arith, turn_below c.turns.steps c.args.self.joined (omega (arith, unsteady (goal.at.offset_bounds-self-turn c).Else-steady)) c.requires.joins)

pub bounds-self-turn : goal.bounds-self-turn
bounds-self-turn c =
    turn_below c.turns.steps c.args.self.joined (omega (arith, unsteady (goal.at.bounds-self-turn c).Else-steady)) c.requires.joins

pub step-next-requires : goal.step-next-requires
step-next-requires c =
    c.requires.names (c.turns.steps % c.args.self.joined) (mod-lt c.turns.steps (omega (arith, unsteady (goal.at.step-next-requires c).Else-steady)))

pub overflow_add-steps : goal.overflow_add-steps
overflow_add-steps c =
    omega (arith, unspent (goal.at.overflow_add-steps c).Else-spent, c.turns.invariant.paid, c.ranges.pay)

pub in_a_row-quiet-requires : goal.in_a_row-quiet-requires
in_a_row-quiet-requires c =
    omega (arith, unsteady (goal.at.in_a_row-quiet-requires c).Else-steady, c.requires.joins)

pub turns-smaller : goal.turns-smaller
turns-smaller c =
    omega (arith, c.turns.invariant.paid, unspent (goal.at.turns-smaller c).Else-spent)

pub turns-preserved : goal.turns-preserved
unfolding turn
turns-preserved c =
    walk_on _ _ _ c.turns.invariant c.if-empty.false (unsteady (goal.at.turns-preserved c).Else-steady) (omega (arith, c.turns.invariant.paid, unspent (goal.at.turns-preserved c).Else-spent))
    c.step-next.ensures c.in_a_row-quiet.ensures
