-- The names of rules beside a sheet, a row a rule: the name and then zero bytes.
use Rattle.std.specs.Prelude.{cond, List, [], ◌∷◌, ℕ, min, ◌-◌, eqb, replicate, take}
use Rattle.std.proofs.lemmas.List.Edits.{sets}
use Rattle.rule.specs.Meaning.{RULES}
use Rattle.line.specs.Line.{LIMIT}
use Rattle.line.specs.declared.Statement.{Statement}
use Rattle.line.specs.declared.Statement.TheVariants as said

-- the row of a name: zero bytes, over which the name is written from the start on
unfoldable pub row_of : List ℕ → List ℕ
row_of name = sets (replicate LIMIT 0) 0 name

-- how many rules an accepted statement adds: "a gate counts as its four rules"
unfoldable pub new_rules : Statement → ℕ
new_rules said.Blank = 0
new_rules (said.Rule u) = 1
new_rules (said.AtLeast a) = 4
new_rules (said.AtMost a) = 4
new_rules (said.Within a c) = 4
new_rules (said.Open n) = 0
new_rules said.Mark = 0
new_rules said.Back = 0
new_rules said.Forward = 0
new_rules said.Ask = 0
new_rules said.Count = 0
new_rules (said.List l) = 0
new_rules (said.Why x) = 0
new_rules said.Show = 0
new_rules (said.Wrong e) = 0

-- as many rows as there is room for, from a place on
unfoldable pub put : (row : List ℕ) (times from : ℕ) → List (List ℕ) → List (List ℕ)
put row times from rows = sets rows from (replicate (min times (RULES - from)) row)

-- The rows after an accepted statement with a name, on a sheet that had so many rules in force: the new rules are numbered from there on,
-- and the row of each is that name's; every other row is as it was.
unfoldable pub kept : Statement → (count : ℕ) → (name : List ℕ) → List (List ℕ) → List (List ℕ)
kept st count name rows = put (row_of name) (new_rules st) count rows

-- the bytes before the first zero byte
unfoldable pub before_zero : List ℕ → List ℕ
before_zero [] = []
before_zero (b ∷ bs) = cond (eqb b 0) [] (b ∷ before_zero bs)

-- the name in a row
unfoldable pub name_in : List ℕ → List ℕ
name_in row = before_zero (take LIMIT row)
