-- `pattern` meets its contract: whole grains and a rest give the nearest pattern. Assumes nothing.
use mathlib.Core.Path.{sym, ap, ◌∙◌}
use Prim.Native.Nat.{ℕ, ◌+◌, ◌-◌, ◌*◌, ◌^◌}
use native.Mathlib.Omega.{arith}
use Rattle.watts.specs.Watts.{pattern}
use Rattle.watts.proofs.Divided.{pattern_is, pattern_zero}
use Rattle.watts.proofs.Rounding.{nearer_most}
use Rattle.watts.proofs.Turns.{power_held}
use Rattle.watts.proofs.Worth.{some}
use Rattle.watts.proofs.pattern.Goals as goal

pub returns-then-digits-eq0 : goal.returns-then-digits-eq0
returns-then-digits-eq0 c = (sym (ap (λ (n : ℕ). pattern n c.args.places) c.if-digits-eq0.true ∙ pattern_zero c.args.places), omega arith)

pub grain_of-grain-requires : goal.grain_of-grain-requires
grain_of-grain-requires c =
    omega (arith, c.pow.ensures, some 0 c.args.places, power_held c.args.places c.requires)

pub overflow_add-below : goal.overflow_add-below
overflow_add-below c = omega arith

pub overflow_mul-below : goal.overflow_mul-below
overflow_mul-below c = record { fits = omega arith }

pub overflow_add-below-2 : goal.overflow_add-below-2
overflow_add-below-2 c = record { fits = omega arith }

pub nearer-requires : goal.nearer-requires
nearer-requires c = omega arith

pub returns : goal.returns
returns c =
    let e = pattern_is c.args.digits c.args.places c.grain_of-grain.result.size c.grain_of-grain.result.doublings c.parts_of-parts.result.doublings c.parts_of-parts.result.whole c.parts_of-parts.result.rest (c.grain_of-grain.ensures.doubled ∙ ap (λ (n : ℕ). n * 2 ^ c.grain_of-grain.result.doublings) c.pow.ensures) c.parts_of-parts.ensures.divided c.parts_of-parts.ensures.rest c.parts_of-parts.ensures.low c.parts_of-parts.ensures.high c.parts_of-parts.ensures.turns c.grain_of-grain.ensures.turns in
    (c.nearer.ensures ∙ sym e, omega (arith, c.nearer.ensures, nearer_most c.parts_of-parts.result.rest (c.grain_of-grain.result.size - c.parts_of-parts.result.rest) ((149 + c.grain_of-grain.result.doublings - c.parts_of-parts.result.doublings) * 2 ^ 23 + c.parts_of-parts.result.whole)))
