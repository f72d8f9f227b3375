-- `row_of` meets its contract. The loop's invariant: the bytes left, written from here over what stands, are all bytes written over zeros.
-- Assumes nothing.
use mathlib.Core.Path.{◌≡◌, refl, sym, ap, ◌∙◌}
use mathlib.Core.List.{List}
use Prim.Native.Nat.{ℕ, suc}
use native.Mathlib.Numerals.{add-one}
use native.Mathlib.Omega.{arith}
use lib.ListN.{drop, get_or, length, length-set}
use lib.Seq.{drop-cons, drop-length, set_out, sets}
use Rattle.naming.specs.Names.{row_of}
use Rattle.naming.proofs.row_of.Goals.{else-i-lt-MOST, then-i-lt-MOST}
use Rattle.naming.proofs.row_of.Goals as goal

pub loop-i-init : goal.loop-i-init
unfolding row_of
loop-i-init c = (omega arith, refl, refl)

pub loop-i-preserved : goal.loop-i-preserved
loop-i-preserved c =
    let done = rw (drop-cons c.args.name.now c.loop-i.i 0 (omega arith)) at c.loop-i.invariant.2 in
    elim c.if-i-lt-MOST.branch [ then-i-lt-MOST u ↦ (omega arith, ap length u.row-is ∙ length-set c.loop-i.row c.loop-i.i (get_or c.args.name.now c.loop-i.i 0) ∙ c.loop-i.invariant.1, rw (add-one c.loop-i.i) (ap (λ (r : List ℕ). sets r (suc c.loop-i.i) (drop (suc c.loop-i.i) c.args.name.now)) u.row-is ∙ done)) | else-i-lt-MOST u ↦ (omega arith, ap length u.row-is ∙ c.loop-i.invariant.1, rw (add-one c.loop-i.i) (ap (λ (r : List ℕ). sets r (suc c.loop-i.i) (drop (suc c.loop-i.i) c.args.name.now)) (u.row-is ∙ sym (set_out c.loop-i.row c.loop-i.i (get_or c.args.name.now c.loop-i.i 0) (omega arith))) ∙ done)) ]

pub returns : goal.returns
returns c =
    let e : c.loop-i.i ≡ length c.args.name.now = omega arith in
    ap (sets c.loop-i.row c.loop-i.i) (sym (ap (λ (k : ℕ). drop k c.args.name.now) e ∙ drop-length c.args.name.now)) ∙ c.loop-i.invariant.2
