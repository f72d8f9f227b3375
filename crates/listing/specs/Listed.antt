-- What a listing promises (02, K10).
use Rattle.std.specs.Prelude.{◌≡◌, cond, List, [], ℕ, eqb, length}
use Rattle.page.specs.Calls.{rules_of}
use Rattle.page.specs.Page.{Page, width_of}
use Rattle.page.specs.Reached.{Reached}
use Rattle.sheet.specs.declared.Sheet.{Sheet}
use Rattle.sheet.specs.Record.{fresh}
use Rattle.sheet.specs.Statements.{IsSheet}
use Rattle.counting.specs.fitting.Words.{at_start, words_from}
use Rattle.listing.specs.list_refusal.Grounds.{list_number}
use Rattle.listing.specs.declared.Listing.{Listing}

abbrev pub listings : (number written : ℕ) → Listing
listings number written = record { number = number; written = written }

-- the words that a listing writes: none where it is refused
unfoldable pub list_on : Page → (start room : ℕ) → List ℕ
list_on pg start room = cond (eqb (list_number pg start) 0) (words_from (width_of pg) (rules_of pg) start room) []

-- What a listing answers, whatever record it is handed, and what the lent buffer, b before, holds after: "both refuse 17 and 1 as asking
-- does"; "a refused listing touches no buffer"; "the rest of the buffer untouched, with the number written".
pub record Listed (s : Sheet) (start : ℕ) (b b' : List ℕ) (r : Listing) : Type 0 where
  pub no_sheet : (IsSheet s → ⊥) → (r ≡ listings 17 0) × (b' ≡ b)
  pub on_page : (pg : Page) → Reached pg → s ≡ fresh pg
      → (r ≡ listings (list_number pg start) (length (list_on pg start (length b)))) × (b' ≡ at_start (list_on pg start (length b)) b)
