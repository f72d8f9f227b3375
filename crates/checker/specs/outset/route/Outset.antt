-- A route: the clauses on the record and on the length of the list, which stand before those on links (`checker::clause: Finding`).
use Rattle.std.specs.Prelude.{Bool, not, List, [], ◌∷◌, ℕ, ◌%◌, eqb}
use Rattle.checker.specs.declared.finding.Breach.TheVariants.{Empty, NoSheet, Ragged}
use Rattle.checker.specs.finding.Clauses.{Clause, clause}

unfoldable pub outset_clauses : (stands blank : Bool) (n : ℕ) → List Clause
outset_clauses s b n = clause s NoSheet ∷ clause (not b) NoSheet ∷ clause (not (eqb n 0)) Empty ∷ clause (eqb (n % 3) 0) Ragged ∷ []
