-- The table of refusals, and the number that its rows give (01, "When the desk says no").
use Rattle.std.specs.Prelude.{Bool, true, false, List, [], ◌∷◌, ℕ}

-- a row: a number, and whether it applies
pub record Ground : Type 0 where
  pub number : ℕ
  pub applies : Bool

abbrev pub ground : ℕ → Bool → Ground
ground n b = record { number = n; applies = b }

-- "where several apply, the lowest number is given": the first row that applies gives its number, and rows stand in the order in which
-- the paper has them looked at, which is that of their numbers but for 11, right after 1 (K7), and 13 and 14, before 6 (K9). 0 is given where none applies
unfoldable pub first_that_applies : List Ground → ℕ
first_that_applies [] = 0
first_that_applies (g ∷ gs) = elim g.applies [ true ↦ g.number | false ↦ first_that_applies gs ]
