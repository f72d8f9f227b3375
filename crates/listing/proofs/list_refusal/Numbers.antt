-- The table of a listing, row by row: 1 on the blank page, 5 exactly above the top word. Assumes nothing.
use mathlib.Core.Path.{◌≡◌, refl}
use Prim.Native.Nat.{ℕ, ◌≤◌, ◌<◌}
use borrow.Author.Tests.{le-ltb, lt-ltb}
use Rattle.word.specs.Word.{top}
use Rattle.page.specs.Calls.{first_that_applies, is_blank}
use Rattle.page.specs.Page.{OpenPage, no_page, page, width_of}
use Rattle.listing.specs.list_refusal.Grounds.{list_grounds, list_number}

pub blank_number : (p : ℕ) → list_number no_page p ≡ 1
unfolding list_number list_grounds first_that_applies is_blank
blank_number p = refl

module _ (o : OpenPage) (p : ℕ) where
  abbrev w : ℕ
  w = o.opening.width

  pub high_number : top w < p → list_number (page o) p ≡ 5
  unfolding list_number list_grounds first_that_applies is_blank width_of
  high_number h = rw (lt-ltb (top w) p h)

  pub own_number : p ≤ top w → list_number (page o) p ≡ 0
  unfolding list_number list_grounds first_that_applies is_blank width_of
  own_number h = rw (le-ltb (top w) p h)
