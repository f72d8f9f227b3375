-- Which text a rule has, by the numbers that the definition tests. Assumes nothing.
use mathlib.Core.Path.{◌≡◌}
use mathlib.Core.Bool.{false, ◌&&◌}
use mathlib.Core.List.{◌++◌}
use Prim.Native.Nat.{ℕ}
use native.Mathlib.Omega.{arith}
use borrow.Author.Tests.{eq-eqb, ne_eqb}
use lib.Dec.{eqb}
use Rattle.rule.specs.declared.Rule.{Rule}
use Rattle.wording.specs.form_rows.Forms.{form_text}
use Rattle.wording.specs.signs.Signs.{at_least, at_most, before}
use Rattle.wording.specs.Wording.{rule_text}

module _ (w : ℕ) (r : Rule) where
  pub at_least_lem : r.form ≡ 2 → r.c2 ≡ 0 → rule_text w r ≡ at_least r.sense r.c1
  unfolding rule_text
  at_least_lem f z = rw (eq-eqb r.form 2 f, eq-eqb r.c2 0 z)

  pub at_most_lem : r.form ≡ 3 → r.c1 ≡ 0 → rule_text w r ≡ at_most r.sense r.c2
  unfolding rule_text
  at_most_lem f z = rw (ne_eqb r.form 2 (λ e. omega arith), eq-eqb r.form 3 f, eq-eqb r.c1 0 z)

  pub by_form : (eqb r.form 2 && eqb r.c2 0) ≡ false → (eqb r.form 3 && eqb r.c1 0) ≡ false
      → rule_text w r ≡ before r.sense ++ form_text w r
  unfolding rule_text
  by_form p q = rw (p, q)
