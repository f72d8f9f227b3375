-- What the tests of a kind say of each other kind. Assumes nothing.
use mathlib.Core.Path.{◌≡◌, refl}
use mathlib.Core.Bool.{false}
use Rattle.line.specs.declared.grammar.kind.Kind.{Kind}
use Rattle.line.specs.declared.grammar.kind.Kind.TheVariants.{Amount, Fraction, Large, Negative, Number, Rule, Statement}
use Rattle.line.specs.scan.Scan.{instead_of, is_number, takes_number}

pub no_number : (k : Kind) → (k ≡ Number → ⊥) → (k ≡ Negative → ⊥) → (k ≡ Amount → ⊥) → (k ≡ Fraction → ⊥) → is_number k ≡ false
unfolding is_number
no_number Number a b c d = absurd (a refl)
no_number Negative a b c d = absurd (b refl)
no_number Amount a b c d = absurd (c refl)
no_number Fraction a b c d = absurd (d refl)
no_number k a b c d = refl

pub no_start : (k : Kind) → (k ≡ Statement → ⊥) → (k ≡ Rule → ⊥) → takes_number k ≡ is_number k
unfolding takes_number
no_start Statement a b = absurd (a refl)
no_start Rule a b = absurd (b refl)
no_start k a b = refl

pub not_large : (k e : Kind) → (k ≡ Large → ⊥) → instead_of k e ≡ e
unfolding instead_of
not_large Large e n = absurd (n refl)
not_large k e n = refl

pub ruleset wanted = (no_number, no_start, not_large)
