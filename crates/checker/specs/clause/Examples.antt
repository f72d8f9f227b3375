-- A list for each clause that it does not keep, and for the order of two, as one table for sheets of either edition at width 4: the numbers,
-- and what is found, read off the paper by hand.
use Rattle.std.specs.Prelude.{List, [], ◌∷◌, ℕ, Result, Ok, Err}
use Rattle.word.specs.declared.Edition.{Edition}
use Rattle.rule.specs.Meaning.{rule}
use Rattle.page.specs.Page.{a_rule, at_width, new_page, page, with_entries}
use Rattle.sheet.specs.declared.Sheet.{Sheet}
use Rattle.sheet.specs.Record.{blank, fresh}
use Rattle.checker.specs.declared.finding.Breach.{Breach}
use Rattle.checker.specs.declared.finding.Breach.TheVariants.{AboveTop, Backward, BitRule, Empty, Gap, MeetsBits, MeetsRule, NoRule, NoSheet, NotFromZero, Ragged, Short}

pub record Example : Type 0 where
  pub sheet : Sheet
  pub numbers : List ℕ
  pub finds : Result Unit Breach

abbrev example : Sheet → List ℕ → Result Unit Breach → Example
example s ns f = record { sheet = s; numbers = ns; finds = f }

-- case 8: 0 to 10 fail rule 0, which is form 3, 5, 3; rule 1 is form 7, 12, 4, and just 4 to 7 meet it
abbrev case8 : Edition → Sheet
case8 e = fresh (page (with_entries (new_page (at_width 4 e)) (a_rule (rule 7 0 12 4) ∷ a_rule (rule 3 0 5 3) ∷ [])))

abbrev pub examples : Edition → List Example
examples e =
    example (case8 e) (0 ∷ 10 ∷ 0 ∷ 11 ∷ 15 ∷ 255 ∷ []) (Ok tt)
    ∷ example blank [] (Err NoSheet)
    ∷ example (case8 e) [] (Err Empty)
    -- a tail is told before what is wrong with a link
    ∷ example (case8 e) (5 ∷ 3 ∷ 0 ∷ 9 ∷ []) (Err Ragged)
    -- a link that ends before it starts, and above the top word
    ∷ example (case8 e) (0 ∷ 10 ∷ 0 ∷ 17 ∷ 16 ∷ 255 ∷ []) (Err (Backward 1))
    ∷ example (case8 e) (0 ∷ 16 ∷ 0 ∷ []) (Err (AboveTop 0))
    ∷ example (case8 e) (1 ∷ 10 ∷ 0 ∷ []) (Err (NotFromZero 0))
    -- a gap of one word; 2 is the number of no rule, and 1 of one of form 7
    ∷ example (case8 e) (0 ∷ 10 ∷ 0 ∷ 12 ∷ 15 ∷ 2 ∷ []) (Err (Gap 1))
    ∷ example (case8 e) (0 ∷ 10 ∷ 0 ∷ 11 ∷ 15 ∷ 2 ∷ []) (Err (NoRule 1))
    ∷ example (case8 e) (0 ∷ 10 ∷ 0 ∷ 11 ∷ 15 ∷ 1 ∷ []) (Err (BitRule 1))
    -- 11 to 14 meet rule 0; 4 is the first word that has the bits
    ∷ example (case8 e) (0 ∷ 12 ∷ 0 ∷ 13 ∷ 15 ∷ 255 ∷ []) (Err (MeetsRule 0 11))
    ∷ example (case8 e) (0 ∷ 10 ∷ 0 ∷ 2 ∷ 15 ∷ 255 ∷ []) (Err (MeetsBits 1 4))
    ∷ example (case8 e) (0 ∷ 10 ∷ 0 ∷ 8 ∷ 14 ∷ 255 ∷ []) (Err Short)
    ∷ []
