-- `line_end` meets its contract. The loop's invariant: the line goes on up to the place, so it ends where what is left of it ends. Assumes nothing.
use mathlib.Core.Path.{refl, sym, ◌∙◌}
use Prim.Native.Nat.{◌-◌}
use native.Mathlib.Omega.{arith}
use borrow.Author.Tests.{leb-true}
use lib.ListN.{drop, length}
use Rattle.frame.specs.input_line.Lines.{line_of}
use Rattle.frame.proofs.input_line.Eight.{further}
use Rattle.frame.proofs.input_line.line_end.Goals as goal

pub loop-i-init : goal.loop-i-init
loop-i-init c = (omega arith, omega arith, refl)

pub loop-i-smaller : goal.loop-i-smaller
loop-i-smaller c = omega arith

pub loop-i-preserved : goal.loop-i-preserved
loop-i-preserved c =
    let t = sym c.goes_on.ensures ∙ c.if-not-goes_on.false in
    let g = leb-true 8 (length (line_of (drop c.loop-i.i c.args.bytes.now))) t in
    (omega arith, omega arith, omega (arith, further c.args.bytes.now 8 c.loop-i.i (omega arith) g))

pub returns : goal.returns
returns c = (omega (arith, c.end_near.ensures.0), c.end_near.ensures.1)
