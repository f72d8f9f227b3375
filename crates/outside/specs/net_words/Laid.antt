-- The words of a net as rows of numbers (02, K12).
use Rattle.std.specs.Prelude.{List, [], ◌∷◌, ◌++◌, ℕ, drop, length, take}
use Rattle.span.specs.declared.interval.Interval.{Interval}
use Rattle.span.specs.interval.Interval.{interval}

-- the two numbers of an interval
abbrev pub row_of : Interval → List ℕ
row_of v = v.low ∷ v.high ∷ []

-- a place not in use
abbrev pub no_word : Interval
no_word = interval 0 0

-- one list laid over another from its start, as far as that has places, and the rest of it as it was
unfoldable pub laid_over : {A : Type 0} → List A → List A → List A
laid_over l m = take (length m) l ++ drop (length l) m
