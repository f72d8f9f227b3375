-- A route: what there is to draw of a column, told by what a slate says of its record. What a picture shows is said of the record.
use Rattle.std.specs.Prelude.{Bool, not, ◌&&◌, cond, ℕ, eqb, ltb, Option, Some, None}
use Rattle.rule.specs.declared.band.Run.{Run}
use Rattle.picture.specs.column.Column.{columns, words_of}

-- the column's words, where there is a sheet that is not blank and such a column
unfoldable pub shown : (stands : Bool) (w c : ℕ) → Option Run
shown s w c = cond (s && (not (eqb w 0) && ltb c (columns w))) (Some (words_of w c)) None
