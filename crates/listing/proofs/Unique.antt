-- No second outcome satisfies a listing's statement, and a refused listing leaves the buffer: a record is a sheet or it is not, and in each
-- case the statement says what the outcome is. Assumes nothing.
use mathlib.Core.Path.{◌≡◌, ap, ◌∙◌}
use mathlib.Core.Bool.{Bool, cond}
use mathlib.Core.List.{List, []}
use Prim.Native.Nat.{ℕ}
use borrow.Author.Tests.{ne_eqb}
use lib.ListN.{length}
use Rattle.page.specs.Calls.{rules_of}
use Rattle.page.specs.Page.{width_of}
use Rattle.sheet.specs.declared.Sheet.{Sheet}
use Rattle.sheet.proofs.Tested.{same_outcome, sheet_or_not}
use Rattle.counting.specs.fitting.Words.{at_start, words_from}
use Rattle.listing.specs.declared.Listing.{Listing}
use Rattle.listing.specs.Listed.{Listed, list_on}

pub listed_unique : {s : Sheet} {start : ℕ} {b b₁ b₂ : List ℕ} {r₁ r₂ : Listing} → Listed s start b b₁ r₁ → Listed s start b b₂ r₂
    → (r₁ ≡ r₂) × (b₁ ≡ b₂)
listed_unique {s} l m =
    sheet_or_not s (λ pg h e. same_outcome (l.on_page pg h e) (m.on_page pg h e)) (λ n. same_outcome (l.no_sheet n) (m.no_sheet n))

-- "a refused listing touches no buffer"
pub refused_leaves : {s : Sheet} {start : ℕ} {b b' : List ℕ} {r : Listing} → Listed s start b b' r → (r.number ≡ 0 → ⊥) → b' ≡ b
unfolding list_on
refused_leaves {s} {start} {b} {b'} l k =
    sheet_or_not s
    (λ pg h e.
    let p = l.on_page pg h e in
    let z = ne_eqb _ 0 (λ q. k (ap (λ (t : Listing). t.number) p.0 ∙ q)) in
    p.1 ∙ ap (λ (v : Bool). at_start (cond v (words_from (width_of pg) (rules_of pg) start (length b)) []) b) z)
    (λ n. (l.no_sheet n).1)
