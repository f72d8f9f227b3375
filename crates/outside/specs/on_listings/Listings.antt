-- What listing the words that fit a list of rules answers and writes: the statement of the call beneath, in numbers.
use Rattle.std.specs.Prelude.{◌≡◌, cond, List, [], ◌∷◌, ℕ, eqb, length}
use Rattle.counting.specs.fitting.Words.{at_start}
use Rattle.listing.specs.list_refusal.Grounds.{list_number}
use Rattle.listing.specs.Listed.{list_on}
use Rattle.outside.specs.making.Made.{Making}

unfoldable pub list_number_in : Making → (start : ℕ) → ℕ
list_number_in m start = cond (eqb m.number 0) (list_number m.on start) m.number

unfoldable pub list_in : Making → (start room : ℕ) → List ℕ
list_in m start room = cond (eqb m.number 0) (list_on m.on start room) []

-- the words, with every number after them as it was; and how many there are, and the place
pub record ListedIn (m : Making) (start : ℕ) (b b' ns : List ℕ) (r : ℕ) : Type 0 where
  pub number : r ≡ list_number_in m start
  pub answer : ns ≡ length (list_in m start (length b)) ∷ m.place ∷ []
  pub words : b' ≡ at_start (list_in m start (length b)) b
