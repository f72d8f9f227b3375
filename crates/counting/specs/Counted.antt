-- What a count promises (02, K10).
use Rattle.std.specs.Prelude.{◌≡◌, cond, List, [], ◌∷◌, ℕ, eqb}
use Rattle.page.specs.Calls.{Ground, first_that_applies, ground, is_blank, rules_of}
use Rattle.page.specs.Page.{Page, width_of}
use Rattle.page.specs.Reached.{Reached}
use Rattle.sheet.specs.declared.Sheet.{Sheet}
use Rattle.sheet.specs.Record.{fresh}
use Rattle.sheet.specs.Statements.{IsSheet}
use Rattle.counting.specs.fitting.Words.{how_many}
use Rattle.counting.specs.declared.Share.{Share}
use Rattle.counting.specs.Share.{shares}

-- the table, of a count on the sheet that a page gives
unfoldable pub count_grounds : Page → List Ground
count_grounds pg = ground 1 (is_blank pg) ∷ []

-- "a count of the fitting words"; "a refusal answers its number, with zeros in the answer's other places"
unfoldable pub share_of : Page → Share
share_of pg =
    let k : ℕ = first_that_applies (count_grounds pg) in
    cond (eqb k 0) (shares 0 (how_many (width_of pg) (rules_of pg))) (shares k 0)

-- What a count answers, whatever record it is handed: "both refuse 17 and 1 as asking does".
pub record Counted (s : Sheet) (r : Share) : Type 0 where
  pub no_sheet : (IsSheet s → ⊥) → r ≡ shares 17 0
  pub on_page : (pg : Page) → Reached pg → s ≡ fresh pg → r ≡ share_of pg
