-- `make` meets its contract: each arm makes its own call. Assumes nothing.
use mathlib.Core.Path.{◌≡◌, sym, subst}
use mathlib.Core.List.{List}
use Prim.Native.Nat.{ℕ}
use Rattle.sheet.specs.declared.slate.Head.{Head}
use Rattle.sheet.specs.declared.slate_make.Call.{Call}
use Rattle.sheet.specs.slate_make.route.Makes.{Makes}
use Rattle.sheet.specs.slate_make.route.Makes.Makes.{adds, opens, sets_mark, steps_back, steps_forward}
use Rattle.sheet.proofs.slate_make.make.Goals as goal

-- the call that was told, where it is known
told : {h : Head} {rows : List (List ℕ)} {marks : List ℕ} {a b : Call} {n : ℕ} {h' : Head} {rows' : List (List ℕ)} {marks' : List ℕ} → a ≡ b
    → Makes h rows marks b n h' rows' marks' → Makes h rows marks a n h' rows' marks'
told {h} {rows} {marks} {n = n} {h' = h'} {rows' = rows'} {marks' = marks'} e p = subst (λ (c : Call). Makes h rows marks c n h' rows' marks') (sym e) p

pub returns-in-Open : goal.returns-in-Open
returns-in-Open c = told c.in-Open.is (opens c.open.ensures)

pub returns-in-Add : goal.returns-in-Add
returns-in-Add c = told c.in-Add.is (adds c.add.ensures)

pub returns-in-Mark : goal.returns-in-Mark
returns-in-Mark c = told c.in-Mark.is (sets_mark c.mark.ensures)

pub returns-in-Back : goal.returns-in-Back
returns-in-Back c = told c.in-Back.is (steps_back c.back.ensures)

pub returns-in-Forward : goal.returns-in-Forward
returns-in-Forward c = told c.in-Forward.is (steps_forward c.forward.ensures)
