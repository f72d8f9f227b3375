-- The rule that has a name, by the rows of names beside a sheet: the first of those in force.
use Rattle.std.specs.Prelude.{Bool, true, false, ◌&&◌, cond, List, [], ◌∷◌, ℕ, suc, min, eqb, ltb, length, take}
use Rattle.std.specs.Prelude.{Option}
use Rattle.std.specs.Prelude.{Some, None}
use Rattle.rule.specs.Meaning.{RULES}
use Rattle.naming.specs.Names.{name_in}

-- two texts are one
unfoldable pub same : List ℕ → List ℕ → Bool
same [] [] = true
same [] (b ∷ m) = false
same (a ∷ l) [] = false
same (a ∷ l) (b ∷ m) = eqb a b && same l m

-- the name in a row is this one; no bytes are no name
unfoldable pub has_name : (name row : List ℕ) → Bool
has_name name row = same (name_in row) name && ltb 0 (length name)

-- the number of the first rule that has a name, where the first row is that of the rule i
unfoldable pub number_from : (i : ℕ) → (rows : List (List ℕ)) → (name : List ℕ) → Option ℕ
number_from i [] name = None
number_from i (row ∷ rows) name = cond (has_name name row) (Some i) (number_from (suc i) rows name)

-- the first rule in force so, of as many as a sheet has room for
unfoldable pub number_of : (rows : List (List ℕ)) → (count : ℕ) → (name : List ℕ) → Option ℕ
number_of rows count name = number_from 0 (take (min count RULES) rows) name
