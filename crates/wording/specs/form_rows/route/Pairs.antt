-- A route: the rows with two numbers. No such row looks at the width. That they are rows of the table is proved in `forms`.
use Rattle.std.specs.Prelude.{Bool, cond, false, true, List, [], ◌∷◌, ℕ, get_or}
use Rattle.rule.specs.declared.Rule.{Rule}
use Rattle.wording.specs.form_rows.Forms.{form_text}

-- whether the row of a form has two numbers, from form 1 on
abbrev pub of_two : (form : ℕ) → Bool
of_two form = get_or (false ∷ true ∷ true ∷ true ∷ false ∷ false ∷ false ∷ true ∷ true ∷ []) form false

-- the row of such a form, and nothing for any other
unfoldable pub pair_text : Rule → List ℕ
pair_text r = cond (of_two r.form) (form_text 0 r) []
