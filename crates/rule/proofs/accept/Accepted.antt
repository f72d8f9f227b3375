-- Rules that would be accepted are what the verdict asks of rules. Assumes nothing.
use mathlib.Core.Path.{◌≡◌}
use mathlib.Core.Bool.{true, false, not, ◌&&◌, ◌||◌}
use mathlib.Core.List.{List, [], ◌∷◌}
use Prim.Native.Nat.{ℕ, ◌≤◌}
use native.Mathlib.Omega.{arith}
use borrow.Author.Tests.{eq-eqb, eqb-false, eqb-true, ltb-false}
use lib.Dec.{eqb, leb, ltb}
use Rattle.word.specs.Word.{top}
use Rattle.word.proofs.Tests.{both_fail, both_pass, first_fails}
use Rattle.rule.specs.declared.Rule.{Rule}
use Rattle.rule.specs.Meaning.{AllLawful, Lawful}
use Rattle.rule.specs.accept.Accept.{acceptable, bad_constant, bad_sense, every, refusal_of, rule_grounds, stray_bit}
use Rattle.rule.proofs.accept.Grounds.{none_given}

plain_sense : (r : Rule) → bad_sense r ≡ false → r.form ≡ 7 → r.sense ≡ 0
unfolding bad_sense
plain_sense r e f =
    let s = both_fail (ltb 1 r.sense) (eqb r.sense 1 && eqb r.form 7) e in
    let low = ltb-false 1 r.sense s.0 in
    let other = eqb-false r.sense 1 (first_fails _ _ (eq-eqb r.form 7 f) s.1) in
    omega arith

words : (w : ℕ) (r : Rule) → bad_constant w r ≡ false → (r.c1 ≤ top w) × (r.c2 ≤ top w)
unfolding bad_constant
words w r e =
    let s = both_fail (ltb (top w) r.c1 || ltb (top w) r.c2 || stray_bit r) (not (eqb r.c2 0) && (leb 4 r.form && leb r.form 6)) e in
    let t = both_fail (ltb (top w) r.c1 || ltb (top w) r.c2) (stray_bit r) s.0 in
    let p = both_fail (ltb (top w) r.c1) (ltb (top w) r.c2) t.0 in
    (ltb-false _ _ p.0, ltb-false _ _ p.1)

lawful : (w : ℕ) (r : Rule) → acceptable w r ≡ true → Lawful w r
unfolding acceptable refusal_of rule_grounds
lawful w r e =
    let form = none_given 2 _ _ (eqb-true (refusal_of w r) 0 e) in
    let sense = none_given 3 _ _ form.1 in
    let q = words w r (none_given 4 _ _ sense.1).0 in
    record { c1_word = q.0; c2_word = q.1; plain = plain_sense r sense.0 }

pub all_lawful : (w : ℕ) (rs : List Rule) → every (acceptable w) rs ≡ true → AllLawful w rs
unfolding every AllLawful
all_lawful w [] e = tt
all_lawful w (r ∷ rs) e =
    let p = both_pass (acceptable w r) (every (acceptable w) rs) e in (lawful w r p.0, all_lawful w rs p.1)
