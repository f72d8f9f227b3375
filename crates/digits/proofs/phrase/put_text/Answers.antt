-- `put_text` meets its contract. The loop's invariant: the letters left, written from here over what stands, are all letters written over
-- what stood. Assumes nothing.
use mathlib.Core.Path.{◌≡◌, refl, sym, ap, ◌∙◌}
use Prim.Native.Nat.{ℕ, ◌+◌}
use native.Mathlib.Nat.{add-suc, add-zero}
use native.Mathlib.Numerals.{add-one}
use native.Mathlib.Omega.{arith}
use lib.ListN.{drop, get_or, length, length-set}
use lib.Seq.{drop-cons, drop-length, sets}
use Rattle.digits.proofs.phrase.put_text.Goals as goal

pub loop-i-init : goal.loop-i-init
loop-i-init c = (omega arith, refl, ap (λ (k : ℕ). sets c.args.out.now k c.args.text.now) (add-zero c.args.at))

pub loop-i-preserved : goal.loop-i-preserved
loop-i-preserved c = (
  omega arith,
  length-set c.loop-i.out (c.args.at + c.loop-i.i) (get_or c.args.text.now c.loop-i.i 0) ∙ c.loop-i.invariant.1,
  rw (add-one c.loop-i.i, add-suc c.args.at c.loop-i.i) (ap (sets c.loop-i.out (c.args.at + c.loop-i.i)) (sym (drop-cons c.args.text.now c.loop-i.i 0 (omega arith))) ∙ c.loop-i.invariant.2),
)

pub returns : goal.returns
returns c =
    let e : c.loop-i.i ≡ length c.args.text.now = omega arith in (
      record { stands = ap (sets c.loop-i.out (c.args.at + c.loop-i.i)) (sym (ap (λ (k : ℕ). drop k c.args.text.now) e ∙ drop-length c.args.text.now)) ∙ c.loop-i.invariant.2 },
      refl,
    )
