-- What counting the words that fit a list of rules answers: the statement of the call beneath, in numbers.
use Rattle.std.specs.Prelude.{cond, List, [], ◌∷◌, ℕ, eqb}
use Rattle.counting.specs.declared.Share.{Share}
use Rattle.counting.specs.Counted.{share_of}
use Rattle.counting.specs.Share.{shares}
use Rattle.outside.specs.making.Made.{Making}

-- what is answered: the refusal of the list, or the count on its page
unfoldable pub share_in : Making → Share
share_in m = cond (eqb m.number 0) (share_of m.on) (shares m.number 0)

-- the quotient and the remainder, and the place
unfoldable pub count_numbers : Making → List ℕ
count_numbers m = (share_in m).quotient ∷ (share_in m).remainder ∷ m.place ∷ []
