-- No second outcome satisfies a count's statement: a record is a sheet or it is not, and in each case the statement says what the
-- outcome is. Assumes nothing.
use mathlib.Core.Path.{◌≡◌, sym, ◌∙◌}
use Rattle.sheet.specs.declared.Sheet.{Sheet}
use Rattle.sheet.proofs.Tested.{sheet_or_not}
use Rattle.counting.specs.declared.Share.{Share}
use Rattle.counting.specs.Counted.{Counted}

pub counted_unique : {s : Sheet} {r₁ r₂ : Share} → Counted s r₁ → Counted s r₂ → r₁ ≡ r₂
counted_unique {s} a b = sheet_or_not s (λ pg h e. a.on_page pg h e ∙ sym (b.on_page pg h e)) (λ n. a.no_sheet n ∙ sym (b.no_sheet n))
