-- The gates worked by hand come out as the table says: by the closed form, which computes. Assumes nothing.
use mathlib.Core.Path.{◌≡◌, refl, sym}
use mathlib.Core.Bool.{true, false}
use lib.Ieee.{fits, is_nan, of_bits, to_bits}
use Rattle.word.specs.Word.{half, minus, plus, top}
use Rattle.gate.specs.declared.Four.{Four}
use Rattle.gate.specs.declared.Gate.{Gate}
use Rattle.gate.specs.declared.Refusal.TheVariants.{NotANumber}
use Rattle.std.specs.Prelude.{Ok, Err}
use Rattle.gate.specs.Examples.{AllRight, examples}
use Rattle.gate.specs.Gate.{failing, not_numbers, turned}
use Rattle.gate.specs.Paper.{Single}
use Rattle.gate.specs.route.Route.{between_rules, from_of, high_of, low_of, past_of, run_of}
use Rattle.gate.proofs.Closed.{as_none, as_rules}

of : (g : Gate) (r : Four) → Single g → not_numbers g ≡ false → r ≡ between_rules (low_of g) (high_of g) → turned g ≡ Ok r
of g r s n e = sym (as_rules g s n r e)

none : (g : Gate) → not_numbers g ≡ true → turned g ≡ Err NotANumber
none g n = sym (as_none g n)

infixr 20 ◌then◌
◌then◌ : {A B : Type 0} → A → B → A × B
a then b = (a, b)

pub all_right : AllRight examples
unfolding fits is_nan of_bits to_bits half minus plus top failing not_numbers Single between_rules from_of past_of run_of
all_right =
    of _ _ refl refl refl
    then of _ _ refl refl refl
    then of _ _ refl refl refl
    then of _ _ refl refl refl
    then of _ _ refl refl refl
    then of _ _ (refl, refl) refl refl
    then of _ _ (refl, refl) refl refl
    then of _ _ (refl, refl) refl refl
    then of _ _ (refl, refl) refl refl
    then of _ _ refl refl refl
    then of _ _ refl refl refl
    then of _ _ refl refl refl
    then of _ _ (refl, refl) refl refl
    then none _ refl
    then none _ refl
    then none _ refl
    then none _ refl
    then tt
