-- What is answered of a list that makes a sheet, or is refused on the way: where it is refused the number and the place are those of
-- the list, else the call beneath is on the sheet of the page that the list makes. Assumes nothing.
use mathlib.Core.Path.{◌≡◌, sym, ap, ap₂, ◌∙◌}
use mathlib.Core.Bool.{Bool}
use mathlib.Core.List.{List, [], ◌∷◌}
use Prim.Native.Nat.{ℕ}
use borrow.Author.Tests.{eq-eqb, ne_eqb}
use mir.Val.{bool_byte}
use Rattle.sheet.specs.declared.Sheet.{Sheet}
use Rattle.checker.specs.Check.{accepts}
use Rattle.outside.specs.handing.Handed.{number_of}
use Rattle.outside.specs.declared.making.Refused.{Refused}
use Rattle.outside.specs.making.Made.{Making}
use Rattle.outside.proofs.list_made.Parts.{Made, Stopped}
use Rattle.outside.specs.on_lists.Lists.{check_numbers}
use Rattle.outside.proofs.handing.Rows.{as_number}

module _ (m : Making) where
  pub refused_check : {x : Refused} → Stopped m x → (ls : List ℕ) → (x.number ≡ m.number) × (0 ∷ x.place ∷ [] ≡ check_numbers m ls)
  unfolding check_numbers
  refused_check h ls = (h.number, rw (ne_eqb m.number 0 h.refused) (ap (λ (i : ℕ). 0 ∷ i ∷ []) h.place))

  pub checked : {s : Sheet} → Made m s → {n : ℕ} → n ≡ m.place → (ls : List ℕ) (t : Bool) → t ≡ accepts s ls
      → (0 ≡ m.number) × (bool_byte t ∷ n ∷ [] ≡ check_numbers m ls)
  unfolding check_numbers
  checked made place ls t p = (
    sym made.number,
    rw (eq-eqb m.number 0 made.number) (ap₂ (λ (k i : ℕ). k ∷ i ∷ []) (as_number t ∙ ap number_of (p ∙ ap (λ (s : Sheet). accepts s ls) made.sheet)) place),
  )
