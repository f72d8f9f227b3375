-- `parts_of` meets its contract. The loop's invariant: whole grains and the rest are the digits, doubled so often. The measure is the turns
-- left. Assumes nothing.
use mathlib.Core.Path.{sym, ◌∙◌}
use Prim.Native.Nat.{ℕ, ◌*◌, ◌/◌, ◌<◌}
use native.Mathlib.Nat.{div-add-mod', div-lt_iff_lt-mul, mod-lt, mul-one}
use native.Mathlib.Omega.{arith}
use Rattle.watts.proofs.Turns.{PAST, TURNS, place_more, turns_held}
use Rattle.watts.proofs.parts_of.Goals.{In-loop-whole}
use Rattle.watts.proofs.parts_of.Goals as goal

-- a place is 0 or 1
place : (rest size : ℕ) → rest < size → rest * 2 / size < 2
place rest size h = (div-lt_iff_lt-mul {k = size} {x = rest * 2} {y = 2} (omega arith)).1 (omega arith)

-- a turn is left
left : (c : In-loop-whole) → c.loop-whole.doublings < TURNS
left c =
    turns_held c.loop-whole.whole c.args.size c.loop-whole.rest c.args.digits c.loop-whole.doublings c.loop-whole.invariant.0 (omega arith) (omega arith) (omega arith) (omega arith)

pub nonzero_div-whole : goal.nonzero_div-whole
nonzero_div-whole c = omega arith

pub nonzero_rem-rest : goal.nonzero_rem-rest
nonzero_rem-rest c = omega arith

pub loop-whole-init : goal.loop-whole-init
loop-whole-init c = (
  div-add-mod' c.args.digits c.args.size ∙ sym (mul-one c.args.digits),
  mod-lt c.args.digits (omega arith),
  (div-lt_iff_lt-mul {k = c.args.size} {x = c.args.digits} {y = PAST} (omega arith)).1 (omega arith),
  omega arith,
)

pub overflow_mul-twice : goal.overflow_mul-twice
overflow_mul-twice c = omega arith

pub overflow_mul-whole : goal.overflow_mul-whole
overflow_mul-whole c = omega arith

pub nonzero_div-whole-in-loop-whole : goal.nonzero_div-whole-in-loop-whole
nonzero_div-whole-in-loop-whole c = omega arith

pub overflow_add-whole : goal.overflow_add-whole
overflow_add-whole c = record { fits = omega (arith, place c.loop-whole.rest c.args.size (omega arith)) }

pub nonzero_rem-rest-in-loop-whole : goal.nonzero_rem-rest-in-loop-whole
nonzero_rem-rest-in-loop-whole c = omega arith

pub overflow_add-doublings : goal.overflow_add-doublings
overflow_add-doublings c = omega arith

pub loop-whole-smaller : goal.loop-whole-smaller
loop-whole-smaller c = omega (arith, left (goal.at.loop-whole-smaller c).In-loop-whole)

pub loop-whole-preserved : goal.loop-whole-preserved
loop-whole-preserved c = (
  place_more c.loop-whole.whole c.args.size c.loop-whole.rest c.args.digits c.loop-whole.doublings c.loop-whole.invariant.0,
  mod-lt (c.loop-whole.rest * 2) (omega arith),
  omega (arith, place c.loop-whole.rest c.args.size (omega arith)),
  omega (arith, left (goal.at.loop-whole-preserved c).In-loop-whole),
)

pub returns : goal.returns
returns c = record { divided = c.loop-whole.invariant.0; rest = omega arith; low = omega arith; high = omega arith; turns = omega arith }
