-- What the tests of a kind say, and the lemmas that the goals of citations want. Assumes nothing.
use mathlib.Core.Path.{◌≡◌, refl}
use mathlib.Core.Bool.{false}
use borrow.Author.Tests.{eq-eqb, ne_eqb}
use Rattle.line.specs.declared.grammar.kind.Kind.{Kind}
use Rattle.line.specs.declared.grammar.kind.Kind.TheVariants.{Name, Number}
use Rattle.line.proofs.grammar.Same.{not_same, same_self}
use Rattle.citing.specs.Citation.{is_reason}

pub no_reason : (k : Kind) → (k ≡ Number → ⊥) → (k ≡ Name → ⊥) → is_reason k ≡ false
unfolding is_reason
no_reason Number a b = absurd (a refl)
no_reason Name a b = absurd (b refl)
no_reason k a b = refl

pub ruleset wanted = (eq-eqb, ne_eqb, no_reason, not_same, same_self)
