-- `put_signed` meets its contract: the test picks the row. Assumes nothing.
use mathlib.Core.Path.{sym, ap, ◌∙◌}
use mathlib.Core.List.{◌∷◌}
use Prim.Native.Nat.{ℕ}
use native.Mathlib.Omega.{arith}
use lib.ListN.{length}
use Rattle.digits.specs.phrase.Phrase.{decimal}
use Rattle.digits.proofs.phrase.Putting.{put_as}
use Rattle.digits.proofs.phrase.Signed.{signed_high, signed_low}
use Rattle.digits.proofs.phrase.put_signed.Goals as goal

pub put_digits-requires : goal.put_digits-requires
put_digits-requires c =
    let e = signed_low c.args.width.bits c.args.a (omega (arith, c.half.ensures)) in record { le_base = (omega arith, omega arith); x_in_bounds = omega (arith, ap length e) }

pub returns-then-a-half : goal.returns-then-a-half
returns-then-a-half c =
    let e = signed_low c.args.width.bits c.args.a (omega (arith, c.half.ensures)) in
    put_as (sym e) c.put_digits.ensures

pub put_one-requires : goal.put_one-requires
put_one-requires c =
    let e = signed_high c.args.width.bits c.args.a (omega (arith, c.half.ensures)) in
    omega (arith, ap length e, ap (λ (n : ℕ). length (decimal n)) c.sub.ensures)

pub returns : goal.returns
returns c =
    let e = signed_high c.args.width.bits c.args.a (omega (arith, c.half.ensures)) in
    put_as (ap (λ (n : ℕ). 45 ∷ decimal n) c.sub.ensures ∙ sym e) c.put_one.ensures
