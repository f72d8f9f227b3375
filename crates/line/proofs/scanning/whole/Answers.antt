-- `whole` meets its contract. The loop's invariant: the letters left, after what is read, are read as all are. Assumes nothing.
use mathlib.Core.Path.{◌≡◌, sym, ap, ap₂, ◌∙◌}
use Prim.Native.Nat.{ℕ}
use native.Mathlib.Numerals.{add-one}
use native.Mathlib.Omega.{arith}
use lib.ListN.{drop, length}
use lib.Seq.{drop-cons, drop-length}
use Rattle.line.specs.declared.scan.Scan.{Scan}
use Rattle.line.specs.scanning.Scanning.{closed, scanned, steps}
use Rattle.line.proofs.scanning.whole.Goals as goal

pub loop-i-init : goal.loop-i-init
loop-i-init c = (omega arith, ap (λ (z : Scan). steps z 0 c.args.line.now) (sym c.start-s.ensures))

pub loop-i-preserved : goal.loop-i-preserved
unfolding steps
loop-i-preserved c = (
  omega arith,
  c.loop-i.invariant.1
      ∙ ap (steps c.loop-i.s c.loop-i.i) (drop-cons c.args.line.now c.loop-i.i 0 (omega arith))
      ∙ ap₂ (λ (z : Scan) (i : ℕ). steps z i (drop i c.args.line.now)) (sym c.step-s.ensures) (sym (add-one c.loop-i.i)),
)

pub returns : goal.returns
unfolding scanned steps
returns c =
    let e : c.loop-i.i ≡ length c.args.line.now = omega arith in
    c.close.ensures
    ∙ ap (λ (z : Scan). closed z (length c.args.line.now)) (sym (c.loop-i.invariant.1 ∙ ap (λ (i : ℕ). steps c.loop-i.s i (drop i c.args.line.now)) e ∙ ap (steps c.loop-i.s (length c.args.line.now)) (drop-length c.args.line.now)))
