-- The table read at one form: what `written` says once the form is known. Assumes nothing.
use mathlib.Core.Path.{◌≡◌, refl, ap}
use mathlib.Core.Bool.{Bool, true, not, cond}
use Prim.Native.Nat.{ℕ, suc, ◌≤◌}
use native.Mathlib.Omega.{arith}
use lib.ListN.{get_or, length, get_or-eq_default}
use borrow.Author.Tests.{eq-eqb, ne_eqb}
use Rattle.rule.specs.declared.Rule.{Rule}
use Rattle.rule.specs.Meaning.{FORMS, rows, written, meets}
use Rattle.rule.proofs.Forms.{Rows, by_form, end, row}

module _ (w : ℕ) (r : Rule) (x : ℕ) where
  pub at_row : (k : ℕ) → r.form ≡ k → written w r x ≡ get_or (rows w r.c1 r.c2 x) k true
  unfolding written
  at_row k e = ap (λ (n : ℕ). get_or (rows w r.c1 r.c2 x) n true) e

  -- the table has a row for 0 and one for each form
  every_form : length (rows w r.c1 r.c2 x) ≡ suc FORMS
  unfolding rows
  every_form = refl

  -- past it nothing is forbidden
  pub past_rows : suc FORMS ≤ r.form → written w r x ≡ true
  unfolding written
  past_rows h = get_or-eq_default (rows w r.c1 r.c2 x) true (omega (arith, every_form))

  -- and no number but a form forbids anything
  pub no_row : Rows (λ (n : ℕ). r.form ≡ n → ⊥) (suc FORMS) 1 → written w r x ≡ true
  unfolding rows
  no_row none = by_form (λ (n : ℕ). r.form ≡ n → written w r x ≡ true) (row (at_row 0) (other none)) (λ n h e. past_rows (rw e h)) r.form refl
    where
      other : {b a : ℕ} → Rows (λ (n : ℕ). r.form ≡ n → ⊥) b a → Rows (λ (n : ℕ). r.form ≡ n → written w r x ≡ true) b a
      other end = end
      other (row d rest) = row (λ e. absurd (d e)) (other rest)

  pub as_written : r.sense ≡ 0 → meets w r x ≡ written w r x
  unfolding meets
  as_written e = ap (λ (b : Bool). cond b (written w r x) (not (written w r x))) (eq-eqb r.sense 0 e)

  pub negated : (r.sense ≡ 0 → ⊥) → meets w r x ≡ not (written w r x)
  unfolding meets
  negated e = ap (λ (b : Bool). cond b (written w r x) (not (written w r x))) (ne_eqb r.sense 0 e)
