-- What a call on a slate promises: the outcome of the call on the record, and that the slate holds it. A route.
use Rattle.std.specs.Prelude.{List, ℕ}
use Rattle.sheet.specs.declared.Sheet.{Sheet}
use Rattle.page.specs.Calls.{Call, add, back, forward, mark, open_at}
use Rattle.sheet.specs.declared.slate_make.Call.{Call as Made}
use Rattle.sheet.specs.declared.slate_make.Call.TheVariants.{Add, Back, Forward, Mark, Open}
use Rattle.sheet.specs.Statements.{Outcome, answers}
use Rattle.sheet.specs.declared.slate.Head.{Head}
use Rattle.sheet.specs.slate.route.Held.{Held}
use Rattle.sheet.specs.route.Held.{packed}

-- the number n and the record that the slate then stands for are the call's outcome, and all is held again
pub record After (s : Sheet) (c : Call) (n : ℕ) (h : Head) (rows : List (List ℕ)) (marks : List ℕ) : Type 0 where
  pub outcome : Outcome s c (answers n (packed h rows marks))
  pub held : Held h rows marks

-- the call that a value of the code asks for
abbrev pub call_of : Made → Call
call_of (Open g) = open_at g
call_of (Add e u) = add e u
call_of Mark = mark
call_of Back = back
call_of Forward = forward
