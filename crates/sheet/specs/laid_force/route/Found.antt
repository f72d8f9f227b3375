-- A route: what is found of a record that is laid out in rows, before a call that only looks at it does anything. What a call must answer is
-- said of the record.
use Rattle.std.specs.Prelude.{◌≡◌, List, ℕ, length}
use Rattle.rule.specs.Meaning.{RULES}
use Rattle.search.specs.rows.route.Rows.{bands_in}
use Rattle.sheet.specs.slate.route.Held.{Drawn}
use Rattle.sheet.specs.declared.Sheet.{Sheet}
use Rattle.sheet.specs.route.Stands.{Stands}
use Rattle.sheet.specs.declared.laid_force.Found.{Found}

-- the number that comes before the table; and, where none does, the first bands and the bits are those of the rules in force
pub record FoundIn (s : Sheet) (r : Found) (rows : List (List ℕ)) : Type 0 where
  pub stands : Stands s r.number
  pub places : length rows ≡ RULES
  pub count : r.force.count ≡ s.count
  pub width : r.force.width.bits ≡ s.width
  pub drawn : r.number ≡ 0 → Drawn r.force.width.bits r.force.count r.force.count s.rules (bands_in rows) r.force.fixed
