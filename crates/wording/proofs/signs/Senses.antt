-- The sense picks one of two rows. Assumes nothing.
use mathlib.Core.Path.{◌≡◌}
use mathlib.Core.Bool.{cond}
use mathlib.Core.List.{List}
use Prim.Native.Nat.{ℕ}
use borrow.Author.Tests.{eq-eqb, ne_eqb}
use lib.Dec.{eqb}

module _ (sense : ℕ) (xs ys : List ℕ) where
  pub plain_is : sense ≡ 0 → cond (eqb sense 0) xs ys ≡ xs
  plain_is h = rw (eq-eqb sense 0 h)

  pub negated_is : (sense ≡ 0 → ⊥) → cond (eqb sense 0) xs ys ≡ ys
  negated_is h = rw (ne_eqb sense 0 h)
