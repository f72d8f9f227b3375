-- When a rule is accepted (01, "When the desk says no": refusals 3, 4 and 5), and a place that no rule has taken.
use Rattle.std.specs.Prelude.{Bool, true, not, ◌&&◌, ◌||◌, List, [], ◌∷◌, ℕ, eqb, leb, ltb}
use Rattle.std.specs.Int.Bits.{bit_and}
use Rattle.word.specs.Word.{top}
use Rattle.rule.specs.declared.Rule.{Rule}
use Rattle.rule.specs.Meaning.{FORMS, rule}
use Rattle.rule.specs.accept.Grounds.{Ground, first_that_applies, ground}

-- "form outside 1 to 8"
unfoldable pub bad_form : Rule → Bool
bad_form r = not (leb 1 r.form && leb r.form FORMS)

-- "sense above 1, or sense 1 with form 7"
unfoldable pub bad_sense : Rule → Bool
bad_sense r = ltb 1 r.sense || eqb r.sense 1 && eqb r.form 7

-- "Form 7 with a bit in c2 that c1 lacks": the bits that the two share are not all of c2
unfoldable pub stray_bit : Rule → Bool
stray_bit r = eqb r.form 7 && not (eqb (bit_and r.c2 r.c1) r.c2)

-- "a constant above the top word, or c2 not zero in forms 4, 5, 6", and since K4 a stray bit in form 7
unfoldable pub bad_constant : ℕ → Rule → Bool
bad_constant w r =
    ltb (top w) r.c1
    || ltb (top w) r.c2
    || stray_bit r
    || not (eqb r.c2 0) && (leb 4 r.form && leb r.form 6)

-- the rows of the table that look at the rule alone
unfoldable pub rule_grounds : ℕ → Rule → List Ground
rule_grounds w r = ground 3 (bad_form r) ∷ ground 4 (bad_sense r) ∷ ground 5 (bad_constant w r) ∷ []

-- the number that they give, 0 where the rule is acceptable
unfoldable pub refusal_of : ℕ → Rule → ℕ
refusal_of w r = first_that_applies (rule_grounds w r)

unfoldable pub acceptable : ℕ → Rule → Bool
acceptable w r = eqb (refusal_of w r) 0

-- a place that no rule has taken
abbrev pub no_rule : Rule
no_rule = rule 0 0 0 0

-- and the test for it
unfoldable pub is_no_rule : Rule → Bool
is_no_rule r = eqb r.form 0 && (eqb r.sense 0 && (eqb r.c1 0 && eqb r.c2 0))

-- each element passes the test
unfoldable pub every : {A : Type 0} → (A → Bool) → List A → Bool
every f [] = true
every f (x ∷ xs) = f x && every f xs
