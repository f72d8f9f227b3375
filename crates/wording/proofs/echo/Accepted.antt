-- What a sheet asks of a rule, as numbers: no row of the table of refusals applies. Assumes nothing.
use mathlib.Core.Path.{◌≡◌}
use mathlib.Core.Bool.{true, false, not, ◌&&◌, ◌||◌}
use mathlib.Core.List.{[], ◌∷◌}
use Prim.Native.Nat.{ℕ, ◌≤◌}
use borrow.Author.Tests.{eqb-true, le-leb, leb-true, ltb-false, not-false}
use lib.Dec.{eqb, leb, ltb}
use Rattle.word.specs.Word.{top}
use Rattle.word.proofs.Tests.{both_fail, both_pass, first_fails}
use Rattle.rule.specs.declared.Rule.{Rule}
use Rattle.rule.specs.Meaning.{AllLawful, FORMS}
use Rattle.rule.specs.accept.Accept.{acceptable, bad_constant, bad_form, bad_sense, every, refusal_of, rule_grounds, stray_bit}
use Rattle.rule.proofs.accept.Accepted.{all_lawful}
use Rattle.rule.proofs.accept.Grounds.{none_given}

pub record Acceptable (w : ℕ) (r : Rule) : Type 0 where
  pub low : 1 ≤ r.form
  pub high : r.form ≤ FORMS
  pub sense : r.sense ≤ 1
  pub c1_word : r.c1 ≤ top w
  pub c2_word : r.c2 ≤ top w
  pub alone : 4 ≤ r.form → r.form ≤ 6 → r.c2 ≡ 0

module _ (w : ℕ) (r : Rule) where
  alone_in : bad_constant w r ≡ false → 4 ≤ r.form → r.form ≤ 6 → r.c2 ≡ 0
  unfolding bad_constant
  alone_in e l h =
      let s = (both_fail (ltb (top w) r.c1 || ltb (top w) r.c2 || stray_bit r) (not (eqb r.c2 0) && (leb 4 r.form && leb r.form 6)) e).1 in
      let both : (leb 4 r.form && leb r.form 6) ≡ true = rw (le-leb 4 r.form l, le-leb r.form 6 h) in
      eqb-true r.c2 0 (not-false (eqb r.c2 0) (first_fails (not (eqb r.c2 0)) (leb 4 r.form && leb r.form 6) both s))

  pub accepted : acceptable w r ≡ true → Acceptable w r
  unfolding acceptable refusal_of rule_grounds bad_form bad_sense every AllLawful
  accepted e =
      let form = none_given 2 _ _ (eqb-true (refusal_of w r) 0 e) in
      let sense = none_given 3 _ _ form.1 in
      let constant = none_given 4 _ _ sense.1 in
      let in_table = both_pass (leb 1 r.form) (leb r.form FORMS) (not-false (leb 1 r.form && leb r.form FORMS) form.0) in
      let law = (all_lawful w (r ∷ []) (rw e)).0 in
      record {
        low = leb-true 1 r.form in_table.0;
        high = leb-true r.form FORMS in_table.1;
        sense = ltb-false 1 r.sense (both_fail (ltb 1 r.sense) (eqb r.sense 1 && eqb r.form 7) sense.0).0;
        c1_word = law.c1_word;
        c2_word = law.c2_word;
        alone = alone_in constant.0;
      }
