-- What the rows of a table say of the number that they give. Assumes nothing.
use mathlib.Core.Path.{◌≡◌, refl}
use mathlib.Core.Bool.{Bool, true, false, cond}
use mathlib.Core.List.{List, [], ◌∷◌, ◌++◌}
use Prim.Native.Nat.{ℕ, suc}
use native.Mathlib.Omega.{arith}
use lib.Dec.{eqb}
use Rattle.rule.specs.declared.Rule.{Rule}
use Rattle.rule.specs.accept.Accept.{bad_constant, bad_form, bad_sense, refusal_of, rule_grounds}
use Rattle.rule.specs.accept.Grounds.{Ground, first_that_applies, ground}

-- where no number is given, the first test has failed, and the rest gives none
pub none_given : (n : ℕ) (b : Bool) (gs : List Ground) → first_that_applies (ground (suc n) b ∷ gs) ≡ 0 → (b ≡ false) × (first_that_applies gs ≡ 0)
unfolding first_that_applies
none_given n true gs e = absurd (omega arith)
none_given n false gs e = (refl, e)

-- the rows of a rule come before those after them
pub rule_first : (w : ℕ) (r : Rule) (gs : List Ground)
    → first_that_applies (rule_grounds w r ++ gs) ≡ cond (eqb (refusal_of w r) 0) (first_that_applies gs) (refusal_of w r)
unfolding first_that_applies rule_grounds refusal_of
rule_first w r gs = go (bad_form r) (bad_sense r) (bad_constant w r)
  where
    go : (a b c : Bool) → first_that_applies (ground 3 a ∷ ground 4 b ∷ ground 5 c ∷ gs)
        ≡ cond (eqb (first_that_applies (ground 3 a ∷ ground 4 b ∷ ground 5 c ∷ [])) 0) (first_that_applies gs) (first_that_applies (ground 3 a ∷ ground 4 b ∷ ground 5 c ∷ []))
    go true b c = refl
    go false true c = refl
    go false false true = refl
    go false false false = refl
