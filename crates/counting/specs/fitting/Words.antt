-- How many words fit, and which (02, K10), by search over all words of the width.
use Rattle.std.specs.Prelude.{List, [], ◌∷◌, ◌++◌, ℕ, suc, ◌-◌, ◌^◌, drop, length, take}
use Rattle.word.specs.Search.{count, passing}
use Rattle.rule.specs.declared.Rule.{Rule}
use Rattle.rule.specs.Meaning.{fits}

-- "a count of the fitting words"
unfoldable pub how_many : ℕ → List Rule → ℕ
how_many w rs = count (fits w rs) (2 ^ w) 0

-- all fitting words from a given word upward
unfoldable pub fitting_from : ℕ → List Rule → (start : ℕ) → List ℕ
fitting_from w rs start = passing (fits w rs) (2 ^ w - start) start

-- "from a given word upward, as many fitting words as the lent buffer holds, in rising order, none left out"
unfoldable pub words_from : ℕ → List Rule → (start room : ℕ) → List ℕ
words_from w rs start room = take room (fitting_from w rs start)

-- "the rest of the buffer untouched": a buffer with words at its start, and every number after them as it was
abbrev pub at_start : List ℕ → List ℕ → List ℕ
at_start xs b = xs ++ drop (length xs) b

-- where a listing from p that wrote these words is carried on: one above the last of them, or at p again where it wrote none
unfoldable pub onward : ℕ → List ℕ → ℕ
onward p [] = p
onward p (x ∷ xs) = onward (suc x) xs
