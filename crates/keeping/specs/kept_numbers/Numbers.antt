-- The numbers of a sheet that a caller outside keeps: "a struct of numbers that the caller owns".
use Rattle.std.specs.Prelude.{◌≡◌, List, [], ◌∷◌, ◌++◌, ℕ}
use Rattle.word.specs.declared.Edition.{Edition}
use Rattle.word.specs.declared.Edition.TheVariants.{New, Old}
use Rattle.rule.specs.declared.Rule.{Rule}
use Rattle.page.specs.Page.{Page}
use Rattle.page.specs.Reached.{Reached}
use Rattle.sheet.specs.declared.Sheet.{Sheet}
use Rattle.sheet.specs.Record.{fresh}

-- the number of an edition
unfoldable pub number_of : Edition → ℕ
number_of Old = 0
number_of New = 1

-- rules one after another, four numbers each: form, sense, c1, c2
unfoldable pub flat : List Rule → List ℕ
flat [] = []
flat (r ∷ rs) = r.form ∷ r.sense ∷ r.c1 ∷ r.c2 ∷ flat rs

-- the numbers that are not of a rule or a mark
abbrev pub head_of : Sheet → List ℕ
head_of s =
    s.width
    ∷ number_of s.edition
    ∷ s.count
    ∷ s.marked
    ∷ s.given
    ∷ s.waiting
    ∷ s.kept.verdict
    ∷ s.kept.smallest
    ∷ s.kept.largest
    ∷ []

-- how many these are, with the marks, and with the rules
abbrev pub HEAD : ℕ
HEAD = 9

abbrev pub RULES_AT : ℕ
RULES_AT = 41

abbrev pub NUMBERS : ℕ
NUMBERS = 841

-- the numbers of a record
unfoldable pub numbers_of : Sheet → List ℕ
numbers_of s = head_of s ++ (s.marks ++ flat s.rules)

-- numbers that are a sheet's: that of "some page of accepted calls"
pub record IsKept (ns : List ℕ) : Type 0 where
  pub on : Page
  pub reached : Reached on
  pub gives : ns ≡ numbers_of (fresh on)
