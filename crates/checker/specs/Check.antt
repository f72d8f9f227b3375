-- What the check says of any record and any list of numbers (02, K3).
use Rattle.std.specs.Prelude.{Bool, not, ◌&&◌, List, ℕ, eqb, take}
use Rattle.sheet.specs.declared.Sheet.{Sheet}
use Rattle.sheet.specs.route.Shape.{is_sheet}
use Rattle.checker.specs.covering.Check.{shown_by}

-- "The blank sheet gets no, and so does a record that is no sheet." The rules in force are the first of the record's.
unfoldable pub accepts : Sheet → List ℕ → Bool
accepts s ns = is_sheet s && (not (eqb s.width 0) && shown_by s.width (take s.count s.rules) ns)
