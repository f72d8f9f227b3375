-- The row of each form as people write it (docs/VET.md), with its numbers.
use Rattle.std.specs.Prelude.{List, [], ◌∷◌, ◌++◌, ℕ, get_or}
use Rattle.rule.specs.declared.Rule.{Rule}
use Rattle.digits.specs.hexadecimal.Text.{bytes_of}
use Rattle.digits.specs.phrase.Phrase.{one, signedly, two}

-- from form 1 on, as written; 0 is no form
abbrev pub forms : (w c1 c2 : ℕ) → List (List ℕ)
forms w c1 c2 =
    []
    ∷ two "x + " c1 " <= x + " c2
    ∷ two "" c1 " <= x + " c2
    ∷ two "x + " c1 " <= " c2
    ∷ (bytes_of "signed x <= " ++ signedly w c1)
    ∷ (signedly w c1 ++ bytes_of " <= signed x")
    ∷ one "x = " c1
    ∷ two "x & " c1 " = " c2
    ∷ two "settled since " c1 " for " c2
    ∷ []

-- a number that is no form has no row
unfoldable pub form_text : ℕ → Rule → List ℕ
form_text w r = get_or (forms w r.c1 r.c2) r.form []

-- the most bytes of a row: `settled since N for N` with twenty digits a number
abbrev pub ROW : ℕ
ROW = 59
