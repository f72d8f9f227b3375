-- A list on its way to a sheet. A route and no meaning: that it leads to what the list makes is proved (proofs/making/Way.antt).
use Rattle.std.specs.Prelude.{◌≡◌, List, ℕ, drop}
use Rattle.rule.specs.declared.Rule.{Rule}
use Rattle.page.specs.declared.Opening.{Opening}
use Rattle.page.specs.Page.{Page}
use Rattle.page.specs.Reached.{Reached}
use Rattle.sheet.specs.declared.Sheet.{Sheet}
use Rattle.sheet.specs.Record.{fresh}
use Rattle.outside.specs.making.Made.{adding, makes}

-- after i rules the sheet is that of a page, and what is left comes to the whole
pub record Under (g : Opening) (us : List Rule) (i : ℕ) (s : Sheet) : Type 0 where
  pub on : Page
  pub reached : Reached on
  pub gives : s ≡ fresh on
  pub whole : makes g us ≡ adding g.edition on i (drop i us)
