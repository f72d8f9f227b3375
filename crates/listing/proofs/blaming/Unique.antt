-- No second outcome satisfies the statement of asking why: a record is a sheet or it is not, and in each case the statement says what the
-- outcome is. Assumes nothing.
use mathlib.Core.Path.{◌≡◌}
use mathlib.Core.List.{List}
use Prim.Native.Nat.{ℕ}
use Rattle.sheet.specs.declared.Sheet.{Sheet}
use Rattle.sheet.proofs.Tested.{same_outcome, sheet_or_not}
use Rattle.listing.specs.declared.Listing.{Listing}
use Rattle.listing.specs.blaming.Blamed.{Blamed}

pub blamed_unique : {s : Sheet} {x : ℕ} {b b₁ b₂ : List ℕ} {r₁ r₂ : Listing} → Blamed s x b b₁ r₁ → Blamed s x b b₂ r₂
    → (r₁ ≡ r₂) × (b₁ ≡ b₂)
blamed_unique {s} l m =
    sheet_or_not s (λ pg h e. same_outcome (l.on_page pg h e) (m.on_page pg h e)) (λ n. same_outcome (l.no_sheet n) (m.no_sheet n))
