-- The rules that rows of the grammar are, and the words that signed numbers are.
use Rattle.std.specs.Prelude.{Bool, true, false, cond, List, [], ◌∷◌, ℕ, eqb, leb, ltb, get_or}
use Rattle.word.specs.Word.{half, minus}
use Rattle.std.specs.Prelude.{Option}
use Rattle.std.specs.Prelude.{Some, None}
use Rattle.rule.specs.declared.Rule.{Rule}
use Rattle.rule.specs.Meaning.{rule}
use Rattle.rule.specs.accept.Accept.{no_rule}

-- The rule of each row, n and m its last two numbers. Where a row has one number, that is m. `x < m` is that not `m <= x`, and `x > m`
-- that not `x <= m`.
abbrev pub rules : (n m : ℕ) → List Rule
rules n m =
    rule 3 0 0 m  -- x <= m
    ∷ rule 2 1 m 0  -- x < m
    ∷ rule 2 0 m 0  -- x >= m
    ∷ rule 3 1 0 m  -- x > m
    ∷ rule 6 0 m 0  -- x = m
    ∷ rule 3 0 n m  -- x + n <= m
    ∷ rule 1 0 n m  -- x + n <= x + m
    ∷ rule 2 0 n m  -- n <= x + m
    ∷ rule 7 0 n m  -- x & n = m
    ∷ rule 4 0 m 0  -- signed x <= m
    ∷ rule 4 0 m 0  -- signed x <= -m
    ∷ rule 5 0 m 0  -- m <= signed x
    ∷ rule 5 0 m 0  -- -m <= signed x
    ∷ rule 8 0 n m  -- settled since n for m
    ∷ []

unfoldable pub rule_at : (row n m : ℕ) → Rule
rule_at row n m = get_or (rules n m) row no_rule

-- `not` turns the sense
abbrev pub turned : Rule → Rule
turned r = rule r.form (cond (eqb r.sense 0) 1 0) r.c1 r.c2

unfoldable pub rule_of : (row : ℕ) (negated : Bool) (n m : ℕ) → Rule
rule_of row true n m = turned (rule_at row n m)
rule_of row false n m = rule_at row n m

-- The word whose signed reading is n, or minus n: "s(a) is a where a < half, else a - 2^w". No word has what is half or more, or less
-- than minus half.
unfoldable pub signed_word : (w : ℕ) (below : Bool) (n : ℕ) → Option ℕ
signed_word w true n = cond (leb n (half w)) (Some (minus w 0 n)) None
signed_word w false n = cond (ltb n (half w)) (Some n) None
