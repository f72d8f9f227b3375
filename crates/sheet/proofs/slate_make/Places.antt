-- A slate has as many places after a call as before it. Assumes nothing.
use mathlib.Core.List.{List}
use Prim.Native.Nat.{ℕ}
use Rattle.sheet.specs.declared.slate.Head.{Head}
use Rattle.sheet.specs.slate.route.Held.{Held, Room}
use Rattle.sheet.proofs.slate.Numbers.{number_zero}
use Rattle.sheet.specs.slate.slate_calls.route.Done.Adds.{added, refused}
use Rattle.sheet.specs.slate.slate_calls.route.Done.Marks.{marked, unmarked}
use Rattle.sheet.specs.slate.slate_calls.route.Done.Opens.{narrow, opened, wide}
use Rattle.sheet.proofs.slate.slate_calls.Bare.{room_added, room_marked, room_opened}
use Rattle.sheet.specs.declared.slate_make.Call.{Call}
use Rattle.sheet.specs.slate_make.route.Makes.{Makes}
use Rattle.sheet.specs.slate_make.route.Makes.Makes.{adds, opens, sets_mark, steps_back, steps_forward}

module _ {h : Head} {rows : List (List ℕ)} {marks : List ℕ} (held : Held h rows marks) where
  pub same_places : {c : Call} {n : ℕ} {h' : Head} {rows' : List (List ℕ)} {marks' : List ℕ} → Makes h rows marks c n h' rows' marks' → Room rows' marks'
  same_places (opens (narrow l)) = held.room
  same_places (opens (wide l)) = held.room
  same_places (opens (opened k low high bare none beside found)) = room_opened bare none
  same_places (adds (refused e z)) = held.room
  same_places (adds {e} {u} (added k f q put none beside found)) = room_added held (number_zero h e u q) u put none
  same_places (sets_mark (unmarked why)) = held.room
  same_places (sets_mark (marked e room bare noted beside)) = room_marked held e bare noted
  same_places (steps_back p) = held.room
  same_places (steps_forward p) = held.room
