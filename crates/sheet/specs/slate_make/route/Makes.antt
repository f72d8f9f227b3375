-- What a call on a slate does, said of head, rows and marks alone: what its own statement says. A route, as those are.
use Rattle.std.specs.Prelude.{List, ℕ}
use Rattle.word.specs.declared.Edition.{Edition}
use Rattle.rule.specs.declared.Rule.{Rule}
use Rattle.page.specs.declared.Opening.{Opening}
use Rattle.sheet.specs.declared.slate.Head.{Head}
use Rattle.sheet.specs.slate.stepping.route.Steps.{Backs, Forwards}
use Rattle.sheet.specs.slate.slate_calls.route.Done.{Adds, Marks, Opens}
use Rattle.sheet.specs.declared.slate_make.Call.{Call}
use Rattle.sheet.specs.declared.slate_make.Call.TheVariants.{Add, Back, Forward, Mark, Open}

-- a row a call; a step moves no row and no mark
pub data Makes (h : Head) (rows : List (List ℕ)) (marks : List ℕ) : Call → ℕ → Head → List (List ℕ) → List ℕ → Type 0 where
  opens : {g : Opening} {n : ℕ} {h' : Head} {rows' : List (List ℕ)} {marks' : List ℕ} → Opens h rows marks g n h' rows' marks'
      → Makes h rows marks (Open g) n h' rows' marks'
  adds : {e : Edition} {u : Rule} {n : ℕ} {h' : Head} {rows' : List (List ℕ)} {marks' : List ℕ} → Adds h rows marks e u n h' rows' marks'
      → Makes h rows marks (Add e u) n h' rows' marks'
  sets_mark : {n : ℕ} {h' : Head} {rows' : List (List ℕ)} {marks' : List ℕ} → Marks h rows marks n h' rows' marks'
      → Makes h rows marks Mark n h' rows' marks'
  steps_back : {n : ℕ} {h' : Head} → Backs h rows marks n h' → Makes h rows marks Back n h' rows marks
  steps_forward : {n : ℕ} {h' : Head} → Forwards h rows marks n h' → Makes h rows marks Forward n h' rows marks
