-- Two outcomes of one call on a slate are alike, since those of each call are. Assumes nothing.
use mathlib.Core.Path.{◌≡◌, refl}
use mathlib.Core.List.{List}
use Prim.Native.Nat.{ℕ}
use Rattle.sheet.specs.declared.slate.Head.{Head}
use Rattle.sheet.proofs.slate.slate_calls.OneWay.{Alike, one_add, one_mark, one_opening, one_step_back, one_step_forward}
use Rattle.sheet.specs.declared.slate_make.Call.{Call}
use Rattle.sheet.specs.slate_make.route.Makes.{Makes}
use Rattle.sheet.specs.slate_make.route.Makes.Makes.{adds, opens, sets_mark, steps_back, steps_forward}

-- a step moves no row and no mark
stepped : {rows : List (List ℕ)} {marks : List ℕ} {n m : ℕ} {k k' : Head} → (n ≡ m) × (k ≡ k') → Alike n m k k' rows rows marks marks
stepped e = record { number = e.0; head = e.1; rules_too = refl; marks_too = refl; bands_too = refl }

module _ {h : Head} {rows : List (List ℕ)} {marks : List ℕ} where
  pub one_made : {c : Call} {n m : ℕ} {k k' : Head} {rs rs' : List (List ℕ)} {ms ms' : List ℕ} → Makes h rows marks c n k rs ms → Makes h rows marks c m k' rs' ms'
      → Alike n m k k' rs rs' ms ms'
  one_made (opens p) (opens q) = one_opening p q
  one_made (adds p) (adds q) = one_add p q
  one_made (sets_mark p) (sets_mark q) = one_mark p q
  one_made (steps_back p) (steps_back q) = stepped (one_step_back p q)
  one_made (steps_forward p) (steps_forward q) = stepped (one_step_forward p q)
