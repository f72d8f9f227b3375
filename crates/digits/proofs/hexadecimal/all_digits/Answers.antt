-- `all_digits` meets its contract. The loop's invariant: all bytes are digits where those looked at are and those left are. Assumes nothing.
use mathlib.Core.Path.{◌≡◌, refl, sym, ap, ◌∙◌}
use mathlib.Core.Bool.{Bool, and_assoc, and-true, ◌&&◌}
use mathlib.Core.List.{List}
use Prim.Native.Nat.{ℕ, suc, ◌<◌}
use native.Mathlib.Numerals.{add-one}
use native.Mathlib.Omega.{arith}
use lib.ListN.{drop, drop_of_length-le, get_or, length}
use lib.Seq.{drop-cons}
use Rattle.digits.specs.hexadecimal.Hex.{all_digits, is_digit}
use Rattle.digits.proofs.hexadecimal.all_digits.Goals as goal

-- the test of the bytes from i on is that of byte i and of those after it
opens : (s : List ℕ) (i : ℕ) → i < length s → all_digits (drop i s) ≡ (is_digit (get_or s i 0) && all_digits (drop (suc i) s))
unfolding all_digits
opens s i h = rw (drop-cons s i 0)

pub loop-i-init : goal.loop-i-init
loop-i-init c = (omega arith, refl)

pub loop-i-smaller : goal.loop-i-smaller
loop-i-smaller c = omega arith

pub loop-i-preserved : goal.loop-i-preserved
loop-i-preserved c = (
  omega arith,
  c.loop-i.invariant.1
      ∙ ap (λ (b : Bool). c.loop-i.all && b) (opens c.args.s.now c.loop-i.i (omega arith))
      ∙ sym (and_assoc c.loop-i.all (is_digit (get_or c.args.s.now c.loop-i.i 0)) (all_digits (drop (suc c.loop-i.i) c.args.s.now)))
      ∙ rw (c.is_digit-all.ensures, add-one c.loop-i.i),
)

pub returns : goal.returns
unfolding all_digits
returns c =
    sym (c.loop-i.invariant.1 ∙ ap (λ (bs : List ℕ). c.loop-i.all && all_digits bs) (drop_of_length-le c.args.s.now {i = c.loop-i.i} (omega arith)) ∙ and-true c.loop-i.all)
