-- What checking a chain against a list of rules answers: the statement of the call beneath, in numbers.
use Rattle.std.specs.Prelude.{◌&&◌, List, [], ◌∷◌, ℕ, eqb}
use Rattle.sheet.specs.Record.{fresh}
use Rattle.checker.specs.Check.{accepts}
use Rattle.outside.specs.handing.Handed.{number_of}
use Rattle.outside.specs.making.Made.{Making}

-- whether the chain is accepted on the page that the list makes, and the place
unfoldable pub check_numbers : Making → (links : List ℕ) → List ℕ
check_numbers m ls = number_of (eqb m.number 0 && accepts (fresh m.on) ls) ∷ m.place ∷ []
