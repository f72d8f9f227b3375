-- What asking why a word fails promises: which rules in force it fails.
use Rattle.std.specs.Prelude.{◌≡◌, cond, List, [], ◌∷◌, ℕ, eqb, ltb, length}
use Rattle.word.specs.Word.{top}
use Rattle.page.specs.Calls.{Ground, first_that_applies, ground, is_blank, rules_of}
use Rattle.page.specs.Page.{Page, width_of}
use Rattle.page.specs.Reached.{Reached}
use Rattle.sheet.specs.declared.Sheet.{Sheet}
use Rattle.sheet.specs.Record.{fresh}
use Rattle.sheet.specs.Statements.{IsSheet}
use Rattle.counting.specs.fitting.Words.{at_start}
use Rattle.listing.specs.failed_rules.Failed.{failed}
use Rattle.listing.specs.declared.Listing.{Listing}
use Rattle.listing.specs.Listed.{listings}

-- the table, of asking why a word fails, with m numbers lent: a word above the top word gets 5, and room for fewer numbers than there are
-- rules in force 9
unfoldable pub why_grounds : Page → (x m : ℕ) → List Ground
why_grounds pg x m = ground 1 (is_blank pg) ∷ ground 5 (ltb (top (width_of pg)) x) ∷ ground 9 (ltb m (length (rules_of pg))) ∷ []

unfoldable pub why_number : Page → (x m : ℕ) → ℕ
why_number pg x m = first_that_applies (why_grounds pg x m)

-- the numbers that are written: none where it is refused
unfoldable pub failed_on : Page → (x m : ℕ) → List ℕ
failed_on pg x m = cond (eqb (why_number pg x m) 0) (failed (width_of pg) x 0 (rules_of pg)) []

-- What is answered, whatever record it is asked of, and what the lent buffer, b before, holds after. 17 comes before the table.
pub record Blamed (s : Sheet) (x : ℕ) (b b' : List ℕ) (r : Listing) : Type 0 where
  pub no_sheet : (IsSheet s → ⊥) → (r ≡ listings 17 0) × (b' ≡ b)
  pub on_page : (pg : Page) → Reached pg → s ≡ fresh pg
      → (r ≡ listings (why_number pg x (length b)) (length (failed_on pg x (length b)))) × (b' ≡ at_start (failed_on pg x (length b)) b)
