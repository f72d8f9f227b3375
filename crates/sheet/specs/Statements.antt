-- What each call promises, and calls one after another.
use Rattle.std.specs.Prelude.{◌≡◌, cond, List, [], ◌∷◌, ◌++◌, ℕ, ◌*◌, eqb, drop, length}
use Rattle.chain.specs.declared.Link.{Link}
use Rattle.chain.specs.Links.{numbers_of}
use Rattle.chain.specs.Findings.{findings}
use Rattle.sheet.specs.declared.slate_ask.Reply.{Reply}
pub use Rattle.sheet.specs.slate_ask.Reply.{refuses, replies}
use Rattle.sheet.specs.declared.Answer.{Answer}
use Rattle.sheet.specs.declared.Sheet.{Sheet}
use Rattle.page.specs.Calls.{Call, add, after, ask, back, forward, mark, open_at, refusal, rules_of, set_gate}
use Rattle.page.specs.declared.Opening.{Opening}
use Rattle.page.specs.Page.{Page, new_page, no_page, page, width_of}
use Rattle.page.specs.Reached.{Reached}
use Rattle.sheet.specs.Record.{fresh}

-- "A record is a sheet when some page of accepted calls gives it, kept numbers included; the blank one is a sheet."
pub record IsSheet (s : Sheet) : Type 0 where
  pub on : Page
  pub reached : Reached on
  pub gives : s ≡ fresh on

abbrev pub answers : ℕ → Sheet → Answer
answers n s = record { number = n; sheet = s }

-- "Opening doesn't read the old record." "A refused opening keeps the old sheet; an accepted one discards it."
unfoldable pub opened : Sheet → Opening → Answer
opened s g =
    let k : ℕ = refusal no_page (open_at g) in
    answers k (cond (eqb k 0) (fresh (page (new_page g))) s)

-- What a call that reads the record answers, whatever record it is handed: 17 where that is no sheet, else the number of the
-- table, with the sheet of the page after the call. A refused call leaves the page, and so the sheet.
pub record Reads (s : Sheet) (c : Call) (r : Answer) : Type 0 where
  pub no_sheet : (IsSheet s → ⊥) → r ≡ answers 17 s
  pub on_page : (pg : Page) → Reached pg → s ≡ fresh pg → r ≡ answers (refusal pg c) (fresh (after pg c))

-- What each call answers: an opening reads no record, the others do. Asking gives a reply (`Asked`).
unfoldable pub Outcome : Sheet → Call → Answer → Type 0
Outcome s (open_at g) r = r ≡ opened s g
Outcome s (add e u) r = Reads s (add e u) r
Outcome s mark r = Reads s mark r
Outcome s back r = Reads s back r
Outcome s forward r = Reads s forward r
Outcome s (ask m) r = ⊥
Outcome s (set_gate g) r = Reads s (set_gate g) r

-- the links that asking writes with m numbers lent: none where it is refused
unfoldable pub chain_on : Page → ℕ → List Link
chain_on pg m = cond (eqb (refusal pg (ask m)) 0) (findings (width_of pg) (rules_of pg)).chain []

-- what asking answers with m numbers lent
unfoldable pub reply : Page → ℕ → Reply
reply pg m =
    let k : ℕ = refusal pg (ask m) in
    cond (eqb k 0) (replies 0 (findings (width_of pg) (rules_of pg)).kept (length (chain_on pg m))) (refuses k)

-- a buffer with links laid at its start, and every number after them as it was
abbrev pub overlaid : List Link → List ℕ → List ℕ
overlaid ls b = numbers_of ls ++ drop (3 * length ls) b

-- What asking answers, whatever record it is handed, and what the lent buffer, b before, holds after.
pub record Asked (s : Sheet) (b b' : List ℕ) (r : Reply) : Type 0 where
  pub no_sheet : (IsSheet s → ⊥) → (r ≡ refuses 17) × (b' ≡ b)
  pub on_page : (pg : Page) → Reached pg → s ≡ fresh pg → (r ≡ reply pg (length b)) × (b' ≡ overlaid (chain_on pg (length b)) b)

-- Calls one after another, refused ones among them, each with any outcome that satisfies its statement.
pub data Sequence : Sheet → List Call → Sheet → Type 0 where
  done : {s : Sheet} → Sequence s [] s
  calls : {s t : Sheet} {cs : List Call} (c : Call) (r : Answer) → Outcome s c r → Sequence r.sheet cs t → Sequence s (c ∷ cs) t
  asks : {s t : Sheet} {cs : List Call} (b b' : List ℕ) (r : Reply) → Asked s b b' r → Sequence s cs t → Sequence s (ask (length b) ∷ cs) t

-- none of them was refused
unfoldable pub AllAccepted : {s t : Sheet} {cs : List Call} → Sequence s cs t → Type 0
AllAccepted done = Unit {0}
AllAccepted (calls c r p rest) = (r.number ≡ 0) × AllAccepted rest
AllAccepted (asks b b' r p rest) = (r.number ≡ 0) × AllAccepted rest
