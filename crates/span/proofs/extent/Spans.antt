-- The span of each operation from the ends that the code finds. Assumes nothing.
use mathlib.Core.Path.{◌≡◌, sym, ap, ap₂, subst, ◌∙◌}
use Prim.Native.Nat.{ℕ}
use lib.Bits.{bit_and, bit_or, bit_xor}
use Rattle.word.specs.Word.{top}
use Rattle.span.specs.declared.interval.Interval.{Interval}
use Rattle.span.specs.declared.interval.Op.{Op}
use Rattle.span.specs.declared.interval.Op.TheVariants.{And, Not, Or, Xor}
use Rattle.span.specs.interval.Interval.{Words, interval, turned}
use Rattle.span.specs.interval.Op.{result, second}
use Rattle.span.specs.extent.Span.{largest, smallest, span}
use Rattle.span.proofs.extent.Turn.{not_largest, not_smallest}

-- an operation on two words reads y
pub read : {w : ℕ} {op o : Op} {y : Interval} → op ≡ o → second o y ≡ y → Words w (second op y) → Words w y
read {w} {op} {o} {y} e d m = subst (Words w) (ap (λ (p : Op). second p y) e ∙ d) m

-- r is what the code has
module _ (w : ℕ) (op : Op) (x y : Interval) {r : Interval} where
  pub not_span : {t : ℕ} → t ≡ top w → Words w x → op ≡ Not → r ≡ turned t x → r ≡ span w op x y
  unfolding span second turned
  not_span h mx e d = rw (e, d, h) (sym (ap₂ interval (not_smallest mx) (not_largest mx)))

  pub and_span : op ≡ And → r ≡ interval (smallest w bit_and x y) (largest w bit_and x y) → r ≡ span w op x y
  unfolding span second result
  and_span e d = rw e d

  pub or_span : op ≡ Or → r ≡ interval (smallest w bit_or x y) (largest w bit_or x y) → r ≡ span w op x y
  unfolding span second result
  or_span e d = rw e d

  pub xor_span : op ≡ Xor → r ≡ interval (smallest w bit_xor x y) (largest w bit_xor x y) → r ≡ span w op x y
  unfolding span second result
  xor_span e d = rw e d
