-- What the batch call answers, as the calls one by one (01, "When the desk says no", last paragraph).
use Rattle.std.specs.Prelude.{◌≡◌, cond, List, [], ◌∷◌, ℕ, ◌+◌, eqb, length}
use Rattle.word.specs.declared.Edition.{Edition}
use Rattle.rule.specs.declared.Rule.{Rule}
use Rattle.rule.specs.Meaning.{RULES}
use Rattle.chain.specs.declared.Link.{Link}
use Rattle.sheet.specs.declared.slate_ask.Reply.{Reply}
use Rattle.page.specs.Calls.{add, after, open_at, refusal}
use Rattle.page.specs.declared.Opening.{Opening}
use Rattle.page.specs.Page.{Page, no_page}
use Rattle.sheet.specs.Statements.{chain_on, overlaid, refuses, reply}
use Rattle.batch.specs.declared.course.Batch.{Batch}

-- one rule more than a sheet takes
abbrev pub MOST : ℕ
MOST = RULES + 1

abbrev pub batches : Reply → ℕ → Batch
batches a i = record { reply = a; place = i }

-- what a batch comes to: what is answered, "at which rule", and the links that are written
pub record Ending : Type 0 where
  pub answer : Batch
  pub chain : List Link

abbrev pub ending : Batch → List Link → Ending
ending a ls = record { answer = a; chain = ls }

-- "stops at the first refusal, and says beside that answer at which rule"
abbrev pub stops : (number place : ℕ) → Ending
stops k i = ending (batches (refuses k) i) []

-- "adding each rule in order and asking", by adds of one edition, where i rules stand on the page and m numbers are lent
unfoldable pub added : Edition → Page → (i : ℕ) → List Rule → (m : ℕ) → Ending
added e pg i [] m = ending (batches (reply pg m) i) (chain_on pg m)
added e pg i (u ∷ us) m =
    let k : ℕ = refusal pg (add e u) in
    cond (eqb k 0) (added e (after pg (add e u)) (i + 1) us m) (stops k i)

-- "It answers as opening a sheet, adding each rule in order and asking would"; "The batch call takes the edition too", which is
-- that of the opening and of every add
-- "(for 2, for 9 and where nothing is refused: the list's length)"
unfoldable pub batch : Opening → List Rule → (m : ℕ) → Ending
batch g us m =
    let k : ℕ = refusal no_page (open_at g) in
    cond (eqb k 0) (added g.edition (after no_page (open_at g)) 0 us m) (stops k (length us))

-- an ending as the caller sees it: the answer, and the lent buffer, b before and b' after
pub record Gives (e : Ending) (b b' : List ℕ) (r : Batch) : Type 0 where
  pub answers : r ≡ e.answer
  pub writes : b' ≡ overlaid e.chain b

-- what the batch call promises
abbrev pub Batched : Opening → List Rule → (b b' : List ℕ) → Batch → Type 0
Batched g us b b' r = Gives (batch g us (length b)) b b' r
