-- What the tests of a stage say where it is none of theirs, and the lemmas that the goals of numbers want. Assumes nothing.
use mathlib.Core.Path.{◌≡◌, refl}
use mathlib.Core.Bool.{false}
use borrow.Author.Tests.{eq-eqb, ne_eqb}
use Rattle.digits.specs.declared.numeral.Stage.{Stage}
use Rattle.digits.specs.declared.numeral.Stage.TheVariants.{Bad, Digits, Large, Start, Zero}
use Rattle.digits.specs.numeral.Numeral.{has_digits, is_start, is_stopped, is_zero}

pub not_start : (s : Stage) → (s ≡ Start → ⊥) → is_start s ≡ false
not_start Start n = absurd (n refl)
not_start s n = refl

pub not_zero : (s : Stage) → (s ≡ Zero → ⊥) → is_zero s ≡ false
not_zero Zero n = absurd (n refl)
not_zero s n = refl

pub no_digits : (s : Stage) → (s ≡ Zero → ⊥) → (s ≡ Digits → ⊥) → has_digits s ≡ false
no_digits Zero z d = absurd (z refl)
no_digits Digits z d = absurd (d refl)
no_digits s z d = refl

pub not_stopped : (s : Stage) → (s ≡ Bad → ⊥) → (s ≡ Large → ⊥) → is_stopped s ≡ false
not_stopped Bad b l = absurd (b refl)
not_stopped Large b l = absurd (l refl)
not_stopped s b l = refl

pub ruleset wanted = (eq-eqb, ne_eqb, not_start, not_zero)
