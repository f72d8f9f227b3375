-- `converse` meets its contract: each turn goes on from the slate that the one before left, both buffers keep their length, and the turns are
-- counted up. Assumes nothing.
use mathlib.Core.Path.{refl, sym, ap₂, subst, ◌∙◌}
use mathlib.Core.Bool.{true}
use Prim.Native.Nat.{◌<◌}
use native.Mathlib.Numerals.{add-one}
use native.Mathlib.Omega.{arith}
use borrow.Author.Rules.{rules}
use Rattle.frame.specs.exchange.route.Desk.{Desk, desk}
use Rattle.coming.specs.declared.Came.TheVariants.{Interrupted}
use Rattle.coming.specs.Calls.{MOST}
use Rattle.desk.specs.turns.Turns.{Turns, another, none_yet}
use Rattle.coming.proofs.Coming.{bounded}
use Rattle.desk.proofs.turns.converse.Goals.{In-loop-input}
use Rattle.desk.proofs.turns.converse.Goals as goal

-- a turn follows only where the number of turns is not used up
below : (c : In-loop-input) → c.loop-input.turns < MOST
below c = bounded _ _ _ (sym c.goes_on.ensures ∙ c.loop-input-test.true)

pub lay_out-head-requires : goal.lay_out-head-requires
lay_out-head-requires c = c.requires.room

pub loop-input-init : goal.loop-input-init
loop-input-init c = (
  c.large_buffer-input.ensures,
  refl,
  c.requires.chain_len.0,
  c.lay_out-head.ensures.held,
  subst (λ (d : Desk). Turns 0 Interrupted true d) (sym (ap₂ desk (c.lay_out-head.ensures.marks_after ∙ c.blank.ensures) c.none-begun.ensures)) none_yet,
)

pub take_turn-turn-requires : goal.take_turn-turn-requires
take_turn-turn-requires c = record { held = c.loop-input.invariant.3; chain_len = (c.loop-input.invariant.2, omega (arith, c.loop-input.invariant.1, c.requires.chain_len.1)) }

pub overflow_add-turns : goal.overflow_add-turns
overflow_add-turns c = omega (arith, below (goal.at.overflow_add-turns c).In-loop-input)

pub loop-input-smaller : goal.loop-input-smaller
loop-input-smaller c = omega (arith, below (goal.at.loop-input-smaller c).In-loop-input)

pub loop-input-preserved : goal.loop-input-preserved
loop-input-preserved c = (
  search rules,
  c.take_turn-turn.auto.out ∙ c.loop-input.invariant.1,
  c.take_turn-turn.ensures.held_2.1,
  c.take_turn-turn.ensures.held_2.0,
  rw add-one (another c.loop-input.invariant.4 (sym c.goes_on.ensures ∙ c.loop-input-test.true) c.take_turn-turn.ensures.turned),
)

pub shape_of-out : goal.shape_of-out
shape_of-out c = c.loop-input.invariant.1

pub returns : goal.returns
returns c = record { stops = record { turns = c.loop-input.invariant.4; stops = sym c.goes_on.ensures ∙ c.loop-input-test.false }; held = (c.loop-input.invariant.3, c.loop-input.invariant.2) }
