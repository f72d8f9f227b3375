-- What a record is found to be before a call looks at anything else. A route: the calls' statements do not name it.
use Rattle.std.specs.Prelude.{◌≡◌, ℕ}
use Rattle.word.specs.declared.Edition.{Edition}
use Rattle.rule.specs.declared.Rule.{Rule}
use Rattle.sheet.specs.declared.Sheet.{Sheet}
use Rattle.page.specs.Calls.{add, refusal}
use Rattle.page.specs.Page.{OpenPage, no_page, page}
use Rattle.sheet.specs.Record.{fresh}
use Rattle.sheet.specs.Statements.{IsSheet}
use Rattle.page.specs.Reached.{Reached}

-- a sheet that is not blank, with its page
pub record Standing (s : Sheet) : Type 0 where
  pub on : OpenPage
  pub reached : Reached (page on)
  pub gives : s ≡ fresh (page on)

-- "17 comes before all others": no sheet; then 1, the blank sheet; else a sheet with a page
pub data Stands (s : Sheet) : ℕ → Type 0 where
  no_sheet : (IsSheet s → ⊥) → Stands s 17
  blank_sheet : s ≡ fresh no_page → Stands s 1
  on_page : Standing s → Stands s 0

-- the number with which a rule is refused, or 0: one of those, else what the table says
pub data RuleSeen (s : Sheet) (e : Edition) (r : Rule) : ℕ → Type 0 where
  before_table : {n : ℕ} → Stands s n → (n ≡ 0 → ⊥) → RuleSeen s e r n
  by_table : (p : Standing s) → RuleSeen s e r (refusal (page p.on) (add e r))
