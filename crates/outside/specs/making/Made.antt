-- What a list of rules makes of a fresh page: the calls of a batch without the asking.
use Rattle.std.specs.Prelude.{Result, Ok, Err, cond, List, [], ◌∷◌, ℕ, ◌+◌, eqb, length}
use Rattle.word.specs.declared.Edition.{Edition}
use Rattle.rule.specs.declared.Rule.{Rule}
use Rattle.page.specs.Calls.{add, after, open_at, refusal}
use Rattle.page.specs.declared.Opening.{Opening}
use Rattle.page.specs.Page.{Page, no_page}
use Rattle.sheet.specs.Record.{fresh}
use Rattle.sheet.specs.declared.Sheet.{Sheet}
use Rattle.outside.specs.declared.making.Refused.{Refused}

-- the number of the first refusal or 0, "at which rule", and the page as it is then
pub record Making : Type 0 where
  pub number : ℕ
  pub place : ℕ
  pub on : Page

abbrev pub making : (number place : ℕ) → Page → Making
making k i pg = record { number = k; place = i; on = pg }

-- "adding each rule in order", by adds of one edition, where i rules stand on the page, up to the first refusal
unfoldable pub adding : Edition → Page → (i : ℕ) → List Rule → Making
adding e pg i [] = making 0 i pg
adding e pg i (u ∷ us) =
    let k : ℕ = refusal pg (add e u) in
    cond (eqb k 0) (adding e (after pg (add e u)) (i + 1) us) (making k i pg)

-- "opening a sheet", and then that; a refused opening is said at the list's length
unfoldable pub makes : Opening → List Rule → Making
makes g us =
    let k : ℕ = refusal no_page (open_at g) in
    cond (eqb k 0) (adding g.edition (after no_page (open_at g)) 0 us) (making k (length us) no_page)

-- that as a sheet, or the first refusal
abbrev pub given : Making → Result Sheet Refused
given m = cond (eqb m.number 0) (Ok (fresh m.on)) (Err (record { number = m.number; place = m.place; sheet = fresh m.on }))
