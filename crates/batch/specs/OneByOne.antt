-- The calls one by one, each with any outcome that satisfies its statement, up to the first refusal. That what these come to is
-- what the batch call promises is proved (proofs/OneByOne.antt), and that there are such outcomes, whatever is handed in (proofs/There.antt).
use Rattle.std.specs.Prelude.{◌≡◌, List, [], ◌∷◌, ℕ, ◌+◌, length}
use Rattle.word.specs.declared.Edition.{Edition}
use Rattle.rule.specs.declared.Rule.{Rule}
use Rattle.sheet.specs.declared.Answer.{Answer}
use Rattle.sheet.specs.declared.slate_ask.Reply.{Reply}
use Rattle.sheet.specs.declared.Sheet.{Sheet}
use Rattle.page.specs.Calls.{add, open_at}
use Rattle.page.specs.declared.Opening.{Opening}
use Rattle.sheet.specs.Record.{blank}
use Rattle.sheet.specs.Statements.{Asked, Outcome, refuses}
use Rattle.batch.specs.declared.course.Batch.{Batch}
use Rattle.batch.specs.course.Batch.{batches}

-- "adding each rule in order and asking", by adds of one edition, where i rules were added to the sheet before
pub data Adding (e : Edition) (b : List ℕ) : Sheet → (i : ℕ) → List Rule → List ℕ → Batch → Type 0 where
  asks : {s : Sheet} {i : ℕ} {b' : List ℕ} {a : Reply} → Asked s b b' a → Adding e b s i [] b' (batches a i)
  refused_rule : {s : Sheet} {i : ℕ} {u : Rule} {us : List Rule} (a : Answer) → Outcome s (add e u) a → (a.number ≡ 0 → ⊥)
      → Adding e b s i (u ∷ us) b (batches (refuses a.number) i)
  adds : {s : Sheet} {i : ℕ} {u : Rule} {us : List Rule} {b' : List ℕ} {r : Batch} (a : Answer) → Outcome s (add e u) a
      → a.number ≡ 0 → Adding e b a.sheet (i + 1) us b' r → Adding e b s i (u ∷ us) b' r

-- "opening a sheet", and then that in the opening's edition
pub data OneByOne (g : Opening) (us : List Rule) (b : List ℕ) : List ℕ → Batch → Type 0 where
  refused_opening : (a : Answer) → Outcome blank (open_at g) a → (a.number ≡ 0 → ⊥)
      → OneByOne g us b b (batches (refuses a.number) (length us))
  opens : {b' : List ℕ} {r : Batch} (a : Answer) → Outcome blank (open_at g) a → a.number ≡ 0
      → Adding g.edition b a.sheet 0 us b' r → OneByOne g us b b' r

-- some outcomes of the calls one by one
pub record Comes (g : Opening) (us : List Rule) (b : List ℕ) : Type 0 where
  pub buffer : List ℕ
  pub answer : Batch
  pub calls : OneByOne g us b buffer answer
