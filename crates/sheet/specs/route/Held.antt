-- The record that a slate stands for. A route: what a call must answer is said of this record.
use Rattle.std.specs.Prelude.{List, ℕ}
use Rattle.search.specs.rows.route.Rows.{rules_in}
use Rattle.sheet.specs.declared.slate.Head.{Head}
use Rattle.sheet.specs.declared.slate_whole.Whole.{Whole}
use Rattle.sheet.specs.declared.Sheet.{Sheet}

unfoldable pub packed : Head → List (List ℕ) → (marks : List ℕ) → Sheet
packed h rows marks =
    record {
      width = h.opening.width;
      rules = rules_in rows;
      count = h.counts.count;
      marks = marks;
      marked = h.counts.marked;
      kept = h.kept;
      given = h.counts.given;
      waiting = h.counts.waiting;
      edition = h.opening.edition;
    }

-- the same of a slate as one value
abbrev pub sheet_of : Whole → Sheet
sheet_of v =
    record {
      width = v.opening.width;
      rules = v.rules;
      count = v.counts.count;
      marks = v.marks;
      marked = v.counts.marked;
      kept = v.kept;
      given = v.counts.given;
      waiting = v.counts.waiting;
      edition = v.opening.edition;
    }
