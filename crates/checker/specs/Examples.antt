-- Lists that 01 would not write and K3 allows, and near each one that gets no, as one table for sheets of either edition: the rules at
-- width 4, the numbers, and what the check says.
use Rattle.std.specs.Prelude.{Bool, true, false, List, [], ◌∷◌, ℕ}
use Rattle.word.specs.declared.Edition.{Edition}
use Rattle.rule.specs.Meaning.{rule}
use Rattle.sheet.specs.declared.Sheet.{Sheet}
use Rattle.page.specs.Page.{Entry, a_rule, at_width, new_page, page, with_entries}
use Rattle.sheet.specs.Record.{blank, fresh}

pub record Example : Type 0 where
  pub sheet : Sheet
  pub numbers : List ℕ
  pub answer : Bool

abbrev example : Sheet → List ℕ → Bool → Example
example s ns b = record { sheet = s; numbers = ns; answer = b }

-- the sheet of width 4 with these entries, the newest first
abbrev sheet_of : Edition → List Entry → Sheet
sheet_of e es = fresh (page (with_entries (new_page (at_width 4 e)) es))

-- case 10: x = 9, and x = 9 negated; its chain is (0,8,0), (9,9,1), (10,15,0)
abbrev nine : Edition → Sheet
nine e = sheet_of e (a_rule (rule 6 1 9 0) ∷ a_rule (rule 6 0 9 0) ∷ [])

-- K8's: negated form 3, 0, 9 fails up to 9, and form 3, 0, 4 fails from 5 on
abbrev overlapping : Edition → Sheet
overlapping e = sheet_of e (a_rule (rule 3 0 0 4) ∷ a_rule (rule 3 1 0 9) ∷ [])

-- case 8: 0 to 10 fail form 3, 5, 3, and the other words fail form 7, 12, 4
abbrev bits : Edition → Sheet
bits e = sheet_of e (a_rule (rule 7 0 12 4) ∷ a_rule (rule 3 0 5 3) ∷ [])

abbrev pub examples : Edition → List Example
examples e =
    -- the chain that 01 writes
    example (nine e) (0 ∷ 8 ∷ 0 ∷ 9 ∷ 9 ∷ 1 ∷ 10 ∷ 15 ∷ 0 ∷ []) true
    -- links that overlap
    ∷ example (overlapping e) (0 ∷ 9 ∷ 0 ∷ 5 ∷ 15 ∷ 1 ∷ []) true
    -- a link inside what is covered
    ∷ example (nine e) (0 ∷ 8 ∷ 0 ∷ 3 ∷ 4 ∷ 0 ∷ 9 ∷ 9 ∷ 1 ∷ 10 ∷ 15 ∷ 0 ∷ []) true
    -- links after the top word was reached
    ∷ example (overlapping e) (0 ∷ 9 ∷ 0 ∷ 6 ∷ 15 ∷ 1 ∷ 0 ∷ 7 ∷ 0 ∷ 12 ∷ 13 ∷ 1 ∷ []) true
    -- a link that goes less far than its rule, and the bits from where they fail
    ∷ example (bits e) (0 ∷ 3 ∷ 0 ∷ 2 ∷ 3 ∷ 255 ∷ 4 ∷ 10 ∷ 0 ∷ 8 ∷ 15 ∷ 255 ∷ []) true
    -- a gap of one word, though the largest end is the top word
    ∷ example (nine e) (0 ∷ 8 ∷ 0 ∷ 10 ∷ 15 ∷ 0 ∷ 9 ∷ 9 ∷ 1 ∷ []) false
    -- a word of the link meets the rule; a word of the link meets all form 7 rules; a form 7 rule is named
    ∷ example (nine e) (0 ∷ 9 ∷ 0 ∷ 9 ∷ 9 ∷ 1 ∷ 10 ∷ 15 ∷ 0 ∷ []) false
    ∷ example (bits e) (0 ∷ 10 ∷ 0 ∷ 7 ∷ 15 ∷ 255 ∷ []) false
    ∷ example (bits e) (0 ∷ 10 ∷ 0 ∷ 11 ∷ 15 ∷ 1 ∷ []) false
    -- a tail of one number; no number; the blank sheet
    ∷ example (overlapping e) (0 ∷ 9 ∷ 0 ∷ 5 ∷ 15 ∷ 1 ∷ 0 ∷ []) false
    ∷ example (overlapping e) [] false
    ∷ example blank (0 ∷ 0 ∷ 255 ∷ []) false
    ∷ []
