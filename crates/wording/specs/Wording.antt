-- A rule as people write it, by the rows of docs/VET.md.
use Rattle.std.specs.Prelude.{◌&&◌, cond, List, ◌++◌, ℕ, ◌+◌, eqb}
use Rattle.rule.specs.declared.Rule.{Rule}
use Rattle.wording.specs.form_rows.Forms.{ROW, form_text}
use Rattle.wording.specs.signs.Signs.{at_least, at_most, before}

unfoldable pub rule_text : ℕ → Rule → List ℕ
rule_text w r =
    cond (eqb r.form 2 && eqb r.c2 0) (at_least r.sense r.c1)
    (cond (eqb r.form 3 && eqb r.c1 0) (at_most r.sense r.c2)
    (before r.sense ++ form_text w r))

-- the most bytes of a rule: `not ` and the longest row
abbrev pub ROOM : ℕ
ROOM = 4 + ROW
