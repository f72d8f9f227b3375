-- `put_line` meets its contract. The loop's invariant: the numbers left, written from here over what stands, are all numbers written over
-- what stood. Assumes nothing.
use mathlib.Core.Path.{refl, sym, ap, ◌∙◌}
use Prim.Native.Nat.{◌-◌, ◌<◌}
use native.Mathlib.Numerals.{add-one}
use native.Mathlib.Omega.{arith}
use lib.ListN.{drop_of_length-le, length, length-set}
use lib.Seq.{sets}
use Rattle.frame.specs.fields.Fields.{digits_in}
use Rattle.frame.proofs.fields.Lines.{line_put, put_next, size_next, with_end}
use Rattle.frame.proofs.fields.put_line.Goals as goal

pub loop-i-init : goal.loop-i-init
loop-i-init c = (omega arith, refl, refl, refl)

pub put-requires : goal.put-requires
put-requires c =
    omega (arith, size_next c.args.line c.loop-i.i (omega arith), with_end c.args.line)

pub overflow_add-end : goal.overflow_add-end
overflow_add-end c =
    omega (arith, size_next c.args.line c.loop-i.i (omega arith), with_end c.args.line)

pub loop-i-smaller : goal.loop-i-smaller
loop-i-smaller c = omega arith

pub loop-i-preserved : goal.loop-i-preserved
loop-i-preserved c =
    let h : c.loop-i.i < length c.args.line = omega arith in (
      omega arith,
      c.put.auto.out ∙ c.loop-i.invariant.1,
      rw (add-one c.loop-i.i) (omega (arith, size_next c.args.line c.loop-i.i h)),
      rw (add-one c.loop-i.i) (put_next c.args.line c.loop-i.i h c.loop-i.end c.put.ensures) ∙ c.loop-i.invariant.3,
    )

pub bounds-out-end : goal.bounds-out-end
bounds-out-end c = omega (arith, with_end c.args.line)

pub overflow_add-result : goal.overflow_add-result
overflow_add-result c = omega (arith, with_end c.args.line)

pub shape_of-out : goal.shape_of-out
shape_of-out c = simp length-set c.loop-i.invariant.1

pub returns : goal.returns
unfolding digits_in
returns c =
    let done = ap digits_in (drop_of_length-le c.args.line {i = c.loop-i.i} (omega arith)) in
    line_put c.args.line (omega (arith, ap length done)) c.requires (ap (sets c.loop-i.out c.loop-i.end) (sym done) ∙ c.loop-i.invariant.3)
