-- What is found of a record and a list of numbers: the first clause that does not hold, those on the record and on the list before
-- those on its links (02, K3).
use Rattle.std.specs.Prelude.{not, List, ◌∷◌, ℕ, ◌%◌, eqb, length, take, Result}
use Rattle.sheet.specs.declared.Sheet.{Sheet}
use Rattle.sheet.specs.route.Shape.{is_sheet}
use Rattle.checker.specs.covering.Check.{links_in}
use Rattle.checker.specs.declared.finding.Breach.{Breach}
use Rattle.checker.specs.declared.finding.Breach.TheVariants.{Empty, NoSheet, Ragged}
use Rattle.checker.specs.finding.Clauses.{Clause, clause, first_broken, list_clauses}

unfoldable pub clauses_of : Sheet → List ℕ → List Clause
clauses_of s ns =
    -- "The blank sheet gets no, and so does a record that is no sheet."
    clause (is_sheet s) NoSheet
    ∷ clause (not (eqb s.width 0)) NoSheet
    -- "the list isn't empty"
    ∷ clause (not (eqb (length ns) 0)) Empty
    -- "A length that isn't a multiple of three gets no."
    ∷ clause (eqb (length ns % 3) 0) Ragged
    -- then link by link, by the rules in force
    ∷ list_clauses s.width (take s.count s.rules) 0 0 (links_in ns)

unfoldable pub finding : Sheet → List ℕ → Result Unit Breach
finding s ns = first_broken (clauses_of s ns)
