-- The clerk's page (01, "What a sheet is" and "When the desk says no").
use Rattle.std.specs.Prelude.{List, [], ◌∷◌, ◌++◌, ℕ, ◌-◌, length, replicate}
use Rattle.word.specs.declared.Edition.{Edition}
use Rattle.word.specs.declared.Edition.TheVariants.{Old}
use Rattle.rule.specs.declared.Rule.{Rule}
use Rattle.page.specs.declared.Opening.{Opening}

-- the most marks in force (01, raised by K6)
abbrev pub MARKS : ℕ
MARKS = 32

-- an entry on the page: a rule, or a mark
pub data Entry : Type 0 where
  a_rule : Rule → Entry
  a_mark : Entry

-- what an opening is given
abbrev pub at_width : ℕ → Edition → Opening
at_width w e = record { width = w; edition = e }

-- what an open page has: how it was opened, the entries that stand, the newest first, and the pile of stretches that wait, the one
-- next to come back on top; a stretch has its entries newest first too
pub record OpenPage : Type 0 where
  pub opening : Opening
  pub entries : List Entry
  pub pile : List (List Entry)

-- the page of an accepted opening; a page with other entries on it, and with another pile beside it
abbrev pub new_page : Opening → OpenPage
new_page g = record { opening = g; entries = []; pile = [] }

abbrev pub with_pile : OpenPage → List Entry → List (List Entry) → OpenPage
with_pile o es ss = record { opening = o.opening; entries = es; pile = ss }

-- "clears the pile at an accepted add, mark or open"
abbrev pub with_entries : OpenPage → List Entry → OpenPage
with_entries o es = with_pile o es []

-- the page: none before the first accepted opening
pub data Page : Type 0 where
  no_page : Page
  page : OpenPage → Page

unfoldable pub width_of : Page → ℕ
width_of no_page = 0
width_of (page o) = o.opening.width

-- "The sheet keeps its edition"; before the first accepted opening it is the old one
unfoldable pub edition_of : Page → Edition
edition_of no_page = Old
edition_of (page o) = o.opening.edition

unfoldable pub entries_of : Page → List Entry
entries_of no_page = []
entries_of (page o) = o.entries

unfoldable pub pile_of : Page → List (List Entry)
pile_of no_page = []
pile_of (page o) = o.pile

-- the rules that stand, "numbered from 0 in the order added"
unfoldable pub rules_on : List Entry → List Rule
rules_on [] = []
rules_on (a_rule r ∷ es) = rules_on es ++ r ∷ []
rules_on (a_mark ∷ es) = rules_on es

-- the marks that stand, in order: for each, how many rules stand above it
unfoldable pub marks_on : List Entry → List ℕ
marks_on [] = []
marks_on (a_rule r ∷ es) = marks_on es
marks_on (a_mark ∷ es) = marks_on es ++ length (rules_on es) ∷ []

-- "Going back strikes the newest mark and the rules added after it."
unfoldable pub struck : List Entry → List Entry
struck [] = []
struck (a_rule r ∷ es) = struck es
struck (a_mark ∷ es) = es

-- the stretch that is struck out so: that mark and those rules
unfoldable pub stretch : List Entry → List Entry
stretch [] = []
stretch (a_rule r ∷ es) = a_rule r ∷ stretch es
stretch (a_mark ∷ es) = a_mark ∷ []

-- "lays the stretch struck out at each accepted step back on top of a pile"
unfoldable pub laid_aside : OpenPage → OpenPage
laid_aside o = with_pile o (struck o.entries) (stretch o.entries ∷ o.pile)

-- "writes the top one back below what stands on the page at each accepted step forward"
unfoldable pub taken_up : List (List Entry) → OpenPage → OpenPage
taken_up [] o = o
taken_up (s ∷ ss) o = with_pile o (s ++ o.entries) ss

-- what stands with every waiting stretch written back, the one next to come back first
unfoldable pub restored : List (List Entry) → List Entry → List Entry
restored [] es = es
restored (s ∷ ss) es = restored ss (s ++ es)

-- "Places not in use hold zeros."
abbrev pub padded : {A : Type 0} → ℕ → A → List A → List A
padded n z xs = xs ++ replicate (n - length xs) z
