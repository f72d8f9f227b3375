-- What stands before a rule, and the rows of forms 2 and 3 where nothing is added to x, by the rows of docs/VET.md.
use Rattle.std.specs.Prelude.{cond, List, [], ℕ, eqb}
use Rattle.digits.specs.hexadecimal.Text.{bytes_of}
use Rattle.digits.specs.phrase.Phrase.{one}

-- what stands before the row of a form, for its sense
unfoldable pub before : (sense : ℕ) → List ℕ
before sense = cond (eqb sense 0) [] (bytes_of "not ")

-- forms 2 and 3 where nothing is added to x: a sign for each sense
unfoldable pub at_least : (sense n : ℕ) → List ℕ
at_least sense n = cond (eqb sense 0) (one "x >= " n) (one "x < " n)

unfoldable pub at_most : (sense n : ℕ) → List ℕ
at_most sense n = cond (eqb sense 0) (one "x <= " n) (one "x > " n)
