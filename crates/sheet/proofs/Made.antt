-- A call made on a slate is the call on its record, whichever it is. Assumes nothing.
use mathlib.Core.List.{List}
use Prim.Native.Nat.{ℕ}
use Rattle.sheet.specs.declared.slate.Head.{Head}
use Rattle.sheet.specs.slate.route.Held.{Held}
use Rattle.sheet.specs.declared.slate_make.Call.{Call as Made}
use Rattle.sheet.specs.slate_make.route.Makes.{Makes}
use Rattle.sheet.specs.slate_make.route.Makes.Makes.{adds, opens, sets_mark, steps_back, steps_forward}
use Rattle.sheet.specs.route.Held.{packed}
use Rattle.sheet.specs.route.Laid.{After, call_of}
use Rattle.sheet.proofs.Added.{add_after}
use Rattle.sheet.proofs.Marked.{mark_after}
use Rattle.sheet.proofs.Opened.{open_after}
use Rattle.sheet.proofs.SteppedBack.{back_after}
use Rattle.sheet.proofs.SteppedForward.{forward_after}

pub made_after : {h : Head} {rows : List (List ℕ)} {marks : List ℕ} → Held h rows marks
    → {c : Made} {n : ℕ} {h' : Head} {rows' : List (List ℕ)} {marks' : List ℕ} → Makes h rows marks c n h' rows' marks'
    → After (packed h rows marks) (call_of c) n h' rows' marks'
made_after held (opens p) = open_after held _ p
made_after held (adds p) = add_after held p
made_after held (sets_mark p) = mark_after held p
made_after held (steps_back p) = back_after held p
made_after held (steps_forward p) = forward_after held p
