-- `grain_of` meets its contract. The loop's invariant: the power is doubled so often, and digits of 64 bits leave room for 24 places. The
-- measure is what is left of that room. Assumes nothing.
use Prim.Native.Nat.{◌*◌, ◌≤◌}
use native.Mathlib.Nat.{div-lt_iff_lt-mul, le-div_iff_mul-le}
use native.Mathlib.Omega.{arith}
use Rattle.watts.proofs.Turns.{PAST, doubled_more, exponent_held}
use Rattle.watts.proofs.grain_of.Goals.{In-loop-size}
use Rattle.watts.proofs.grain_of.Goals as goal

-- digits have 24 places of it
room : (c : In-loop-size) → PAST * c.loop-size.size ≤ c.args.digits
room c =
    (le-div_iff_mul-le {k = c.loop-size.size} {x = PAST} {y = c.args.digits} (omega arith)).0 (omega arith)

pub loop-size-init : goal.loop-size-init
loop-size-init c = omega arith

pub nonzero_div-digits : goal.nonzero_div-digits
nonzero_div-digits c = omega arith

pub overflow_mul-size : goal.overflow_mul-size
overflow_mul-size c = record { fits = omega (arith, room (goal.at.overflow_mul-size c).In-loop-size) }

pub overflow_add-doublings : goal.overflow_add-doublings
overflow_add-doublings c = omega arith

pub loop-size-smaller : goal.loop-size-smaller
loop-size-smaller c = omega (arith, room (goal.at.loop-size-smaller c).In-loop-size)

pub loop-size-preserved : goal.loop-size-preserved
loop-size-preserved c =
    (doubled_more c.loop-size.size c.args.power c.loop-size.doublings c.loop-size.invariant.0, omega arith, omega (arith, room (goal.at.loop-size-preserved c).In-loop-size))

pub returns : goal.returns
returns c =
    record {
      doubled = c.loop-size.invariant.0;
      low = omega arith;
      high = omega arith;
      places = (div-lt_iff_lt-mul {k = c.loop-size.size} {x = c.args.digits} {y = PAST} (omega arith)).0 (omega arith);
      turns = omega (arith, exponent_held c.loop-size.doublings c.args.power 42 (omega arith) (omega arith));
    }
