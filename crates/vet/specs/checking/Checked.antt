-- What the status of a check says: 0, "yes: no word fits", is given only where no word fits.
use Rattle.std.specs.Prelude.{◌≡◌, ℕ, ◌≤◌, true, false, List, take}
use Rattle.word.specs.Word.{top}
use Rattle.rule.specs.Meaning.{fits}
use Rattle.sheet.specs.declared.Sheet.{Sheet}
use Rattle.checker.specs.Check.{accepts}

-- no word of the sheet's width meets all its rules in force, as numbers show that the check accepts
pub record NoWordFits (s : Sheet) : Type 0 where
  pub numbers : List ℕ
  pub accepted : accepts s numbers ≡ true
  pub none : (x : ℕ) → x ≤ top s.width → fits s.width (take s.count s.rules) x ≡ false

abbrev pub Checked : Sheet → (status : ℕ) → Type 0
Checked s k = k ≡ 0 → NoWordFits s
