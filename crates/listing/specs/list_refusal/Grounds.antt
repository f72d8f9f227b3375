-- When a listing is refused (02, K10), on the sheet that a page gives.
use Rattle.std.specs.Prelude.{List, [], ◌∷◌, ℕ, ltb}
use Rattle.word.specs.Word.{top}
use Rattle.page.specs.Calls.{Ground, first_that_applies, ground, is_blank}
use Rattle.page.specs.Page.{Page, width_of}

-- the table: "a start above the top word gets 5"
unfoldable pub list_grounds : Page → (start : ℕ) → List Ground
list_grounds pg start = ground 1 (is_blank pg) ∷ ground 5 (ltb (top (width_of pg)) start) ∷ []

unfoldable pub list_number : Page → (start : ℕ) → ℕ
list_number pg start = first_that_applies (list_grounds pg start)
