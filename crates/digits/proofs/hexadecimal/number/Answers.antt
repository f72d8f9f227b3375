-- `number` meets its contract. The loop's invariant: the digits left, after what is read, write the number of all; and k
-- digits write less than 2^(4k). Assumes nothing.
use mathlib.Core.Path.{◌≡◌, refl, sym, ap, ap₂, ◌∙◌}
use Prim.Native.Nat.{ℕ, ◌+◌, ◌-◌, ◌*◌, ◌^◌, ◌<◌}
use native.Mathlib.Numerals.{add-one}
use native.Mathlib.Omega.{arith}
use lib.Seq.{slice, slice-cons, slice_empty}
use Rattle.digits.specs.hexadecimal.Hex.{number, number_from}
use Rattle.digits.proofs.hexadecimal.Digits.{digit_more, room_for_one}
use Rattle.digits.proofs.hexadecimal.number.Goals.{In-loop-i}
use Rattle.digits.proofs.hexadecimal.number.Goals as goal

-- so far there are fewer than the most digits
small : (l : In-loop-i) → l.loop-i.n < 2 ^ 60
small l = room_for_one (l.loop-i.i - l.args.from) _ (omega arith) l.loop-i.invariant.2

pub loop-i-init : goal.loop-i-init
unfolding number
loop-i-init c =
    let z : 4 * (c.args.from - c.args.from) ≡ 0 = omega arith in
    (omega arith, omega arith, rw z (omega arith), refl)

pub overflow_mul-n : goal.overflow_mul-n
overflow_mul-n c = omega (arith, small (goal.at.overflow_mul-n c).In-loop-i)

pub overflow_add-n : goal.overflow_add-n
overflow_add-n c = omega (arith, small (goal.at.overflow_add-n c).In-loop-i)

pub loop-i-preserved : goal.loop-i-preserved
unfolding number_from
loop-i-preserved c =
    let k : 4 * (c.loop-i.i + 1 - c.args.from) ≡ 4 * (c.loop-i.i - c.args.from) + 4 = omega arith in (
      omega arith,
      omega arith,
      rw k (digit_more (c.loop-i.i - c.args.from) _ _ c.loop-i.invariant.2 c.value.ensures.1),
      c.loop-i.invariant.3
          ∙ ap (number_from c.loop-i.n) (slice-cons c.loop-i.i c.args.to c.args.s.now 0 (omega arith) (omega arith))
          ∙ ap₂ (λ (v i : ℕ). number_from (16 * c.loop-i.n + v) (slice i c.args.to c.args.s.now)) (sym c.value.ensures.0) (sym (add-one c.loop-i.i)),
    )

pub returns : goal.returns
unfolding number_from
returns c =
    let e : c.loop-i.i ≡ c.args.to = omega arith in
    sym (c.loop-i.invariant.3 ∙ ap (λ (i : ℕ). number_from c.loop-i.n (slice i c.args.to c.args.s.now)) e ∙ ap (number_from c.loop-i.n) (slice_empty c.args.to c.args.s.now))
