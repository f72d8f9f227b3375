-- `put_digits` meets its contract: it writes the digits of the quotient and then the last one. The measure is x, which a call of
-- itself divides. Assumes nothing.
use mathlib.Core.Path.{sym, ap, ◌∙◌}
use mathlib.Core.List.{List}
use Prim.Native.Nat.{ℕ, ◌+◌, ◌/◌, ◌<◌}
use native.Mathlib.Nat.{div-lt_self, mod-lt}
use native.Mathlib.Omega.{arith}
use lib.ListN.{length, length-set}
use lib.Seq.{length-sets}
use Rattle.digits.proofs.hexadecimal.Digits.{and_then}
use Rattle.digits.specs.numeral.Digits.{digits_in}
use Rattle.digits.proofs.numeral.Quotients.{digit_more, last_digit, length_more}
use Rattle.digits.proofs.numeral.writing.+put_digits.Goals as goal

pub glyph-requires : goal.glyph-requires
glyph-requires t c = omega arith

pub bounds-out-at : goal.bounds-out-at
bounds-out-at t c = omega (arith, ap length (last_digit c.args.base c.requires.le_base.0 c.args.x (omega arith)))

pub returns-then-x-base : goal.returns-then-x-base
returns-then-x-base t c =
    let e = last_digit c.args.base c.requires.le_base.0 c.args.x (omega arith) in
    (record { stands = rw (e, c.glyph.ensures) }, ap (λ (ds : List ℕ). c.args.at + length ds) (sym e))

pub nonzero_div-x : goal.nonzero_div-x
nonzero_div-x t c = omega arith

pub put_digits-end-requires : goal.put_digits-end-requires
put_digits-end-requires t c =
    let q : c.args.x / c.args.base < c.args.x = div-lt_self (omega arith) (omega arith) in
    (omega arith, (c.requires.le_base, omega (arith, length_more c.args.base c.requires.le_base.0 c.args.x (omega arith))))

pub nonzero_rem-x : goal.nonzero_rem-x
nonzero_rem-x t c = omega arith

pub glyph-requires-2 : goal.glyph-requires-2
glyph-requires-2 t c = omega (arith, mod-lt c.args.x {m = c.args.base} (omega arith))

pub bounds-out-end : goal.bounds-out-end
bounds-out-end t c =
    let same = ap length c.put_digits-end.ensures.0.stands ∙ length-sets c.args.out.now c.args.at (digits_in c.args.base (c.args.x / c.args.base)) in
    omega (arith, c.put_digits-end.ensures.1, length_more c.args.base c.requires.le_base.0 c.args.x (omega arith))

pub overflow_add-result-2 : goal.overflow_add-result-2
overflow_add-result-2 t c =
    record { fits = omega (arith, c.put_digits-end.ensures.1, length_more c.args.base c.requires.le_base.0 c.args.x (omega arith)) }

pub shape_of-out : goal.shape_of-out
shape_of-out t c =
    length-set c.put_digits-end.new.out c.put_digits-end.result c.glyph-2.result
    ∙ ap length c.put_digits-end.ensures.0.stands
    ∙ length-sets c.args.out.now c.args.at (digits_in c.args.base (c.args.x / c.args.base))

pub returns : goal.returns
returns t c =
    let e = digit_more c.args.base c.requires.le_base.0 c.args.x (omega arith) in (
      rw e (and_then c.put_digits-end.ensures.0 (record { stands = rw c.glyph-2.ensures }) c.put_digits-end.ensures.1),
      omega (arith, length_more c.args.base c.requires.le_base.0 c.args.x (omega arith)),
    )
