-- What a list that makes a sheet comes to, and what one that is refused does. Assumes nothing.
use mathlib.Core.Path.{◌≡◌, refl, sym, ap, ◌∙◌}
use mathlib.Core.Bool.{Bool, true, false, cond}
use Rattle.std.proofs.lemmas.Bool.{eqb-true, eqb-false}
use lib.Dec.{eqb}
use Rattle.std.specs.Prelude.{Result, Ok, Err}
use Rattle.sheet.specs.declared.Sheet.{Sheet}
use Rattle.sheet.specs.Record.{fresh}
use Rattle.outside.specs.declared.making.Refused.{Refused}
use Rattle.outside.specs.making.Made.{Making, given}

-- the sheet is that of the page
pub record Made (m : Making) (s : Sheet) : Type 0 where
  pub number : m.number ≡ 0
  pub sheet : s ≡ fresh m.on

-- the number and the place are those of the list
pub record Stopped (m : Making) (e : Refused) : Type 0 where
  pub refused : m.number ≡ 0 → ⊥
  pub number : e.number ≡ m.number
  pub place : e.place ≡ m.place

module _ (m : Making) where
  ok_of : (t : Bool) → eqb m.number 0 ≡ t → {s : Sheet} → ◌≡◌ {A = Result Sheet Refused} (Ok s) (cond t (Ok (fresh m.on)) (Err (record { number = m.number; place = m.place; sheet = fresh m.on }))) → Made m s
  ok_of true h e = record { number = eqb-true m.number 0 h; sheet = cc }
  ok_of false h e = absurd (cc)

  err_of : (t : Bool) → eqb m.number 0 ≡ t → {x : Refused} → ◌≡◌ {A = Result Sheet Refused} (Err x) (cond t (Ok (fresh m.on)) (Err (record { number = m.number; place = m.place; sheet = fresh m.on }))) → Stopped m x
  err_of true h e = absurd (cc)
  err_of false h {x} e =
      let same : x ≡ record { number = m.number; place = m.place; sheet = fresh m.on } = cc in
      record { refused = eqb-false m.number 0 h; number = ap (λ (y : Refused). y.number) same; place = ap (λ (y : Refused). y.place) same }

  pub made : {r : Result Sheet Refused} → r ≡ given m → {s : Sheet} → r ≡ Ok s → Made m s
  made e q = ok_of (eqb m.number 0) refl (sym q ∙ e)

  pub stopped : {r : Result Sheet Refused} → r ≡ given m → {x : Refused} → r ≡ Err x → Stopped m x
  stopped e q = err_of (eqb m.number 0) refl (sym q ∙ e)
