-- Statements one after another: what they are answered on the clerk's pages, up to the first mistake or refusal, and nothing after it.
use Rattle.std.specs.Prelude.{◌≡◌, Bool, true, false, cond, List, [], ◌∷◌, ℕ, eqb, length, replicate, Ok, Err}
use Rattle.word.specs.declared.Edition.TheVariants.{New}
use Rattle.rule.specs.Meaning.{RULES}
use Rattle.chain.specs.Links.{chain_room}
use Rattle.page.specs.Calls.{add, after, back, first_that_applies, forward, mark, open_at, refusal, set_gate}
use Rattle.page.specs.Page.{Page, at_width}
use Rattle.sheet.specs.Statements.{reply}
use Rattle.counting.specs.Counted.{count_grounds, share_of}
use Rattle.listing.specs.list_refusal.Grounds.{list_number}
use Rattle.listing.specs.Listed.{list_on, listings}
use Rattle.listing.specs.blaming.Blamed.{failed_on, why_number}
use Rattle.line.specs.declared.Statement.{Statement}
use Rattle.line.specs.declared.Statement.TheVariants as said
use Rattle.dialogue.specs.declared.upshot.Response.{Response}
use Rattle.dialogue.specs.declared.upshot.Response.TheVariants.{Asked, Blamed, Counted, Done, Listed, Mistaken, Refused, Shown, Silent}
use Rattle.dialogue.specs.upshot.Upshot.{Upshot}
use Rattle.dialogue.specs.saying.Says.{Lent, Wanted, at_least, at_most, up_to, within}
use Rattle.dialogue.specs.declared.Dialogue.{Dialogue}
use Rattle.dialogue.specs.Takes.{Takes, dialogue_of}

-- what is answered, or the number of a refusal
unfoldable pub numbered : ℕ → Response → Response
numbered k a = cond (eqb k 0) a (Refused k)

-- a line on watts: the call that sets its gate
unfoldable pub gate_answer : Page → Wanted → Response
gate_answer pg (Ok g) = numbered (refusal pg (set_gate g)) Done
gate_answer pg (Err e) = Mistaken e

unfoldable pub gate_page : Page → Wanted → Page
gate_page pg (Ok g) = after pg (set_gate g)
gate_page pg (Err e) = pg

-- what a statement is answered on the sheet of a page, with so many words lent
unfoldable pub answer_on : (room : ℕ) → Page → Statement → Response
answer_on m pg said.Blank = Silent
answer_on m pg (said.Rule u) = numbered (refusal pg (add New u)) Done
answer_on m pg (said.AtLeast a) = gate_answer pg (at_least a)
answer_on m pg (said.AtMost a) = gate_answer pg (at_most a)
answer_on m pg (said.Within a c) = gate_answer pg (within a c)
answer_on m pg (said.Open n) = numbered (refusal pg (open_at (at_width n New))) Done
answer_on m pg said.Mark = numbered (refusal pg mark) Done
answer_on m pg said.Back = numbered (refusal pg back) Done
answer_on m pg said.Forward = numbered (refusal pg forward) Done
answer_on m pg said.Ask = numbered (reply pg (chain_room RULES)).number (Asked (reply pg (chain_room RULES)))
answer_on m pg said.Count = numbered (share_of pg).number (Counted (share_of pg))
answer_on m pg (said.List l) =
    numbered (list_number pg l.from) (Listed (up_to l.most (listings (list_number pg l.from) (length (list_on pg l.from m)))))
answer_on m pg (said.Why x) =
    numbered (why_number pg x (chain_room RULES)) (Blamed (listings (why_number pg x (chain_room RULES)) (length (failed_on pg x (chain_room RULES)))))
answer_on m pg said.Show = numbered (first_that_applies (count_grounds pg)) Shown
answer_on m pg (said.Wrong e) = Mistaken e

-- the page after a statement: what the clerk makes of its call
unfoldable pub page_on : Page → Statement → Page
page_on pg said.Blank = pg
page_on pg (said.Rule u) = after pg (add New u)
page_on pg (said.AtLeast a) = gate_page pg (at_least a)
page_on pg (said.AtMost a) = gate_page pg (at_most a)
page_on pg (said.Within a c) = gate_page pg (within a c)
page_on pg (said.Open n) = after pg (open_at (at_width n New))
page_on pg said.Mark = after pg mark
page_on pg said.Back = after pg back
page_on pg said.Forward = after pg forward
page_on pg said.Ask = pg
page_on pg said.Count = pg
page_on pg (said.List l) = pg
page_on pg (said.Why x) = pg
page_on pg said.Show = pg
page_on pg (said.Wrong e) = pg

-- a refusal or a mistake ends the dialogue
unfoldable pub ending : Response → Bool
ending (Refused k) = true
ending (Mistaken e) = true
ending Silent = false
ending Done = false
ending (Asked r) = false
ending (Counted s) = false
ending (Listed l) = false
ending (Blamed l) = false
ending Shown = false

-- the answers to statements: each that of its call on the page as it is then, up to the first mistake or refusal; after it nothing
unfoldable pub answers_to : (room : ℕ) → Page → List Statement → List Response
answers_to m pg [] = []
answers_to m pg (st ∷ sts) =
    answer_on m pg st ∷ cond (ending (answer_on m pg st)) (replicate (length sts) Silent) (answers_to m (page_on pg st) sts)

-- the page that is left: nothing is done after the first mistake or refusal
unfoldable pub page_after : (room : ℕ) → Page → List Statement → Page
page_after m pg [] = pg
page_after m pg (st ∷ sts) = cond (ending (answer_on m pg st)) (page_on pg st) (page_after m (page_on pg st) sts)

-- Statements one after another, each with any outcome that satisfies what taking it promises, with buffers of these lengths.
pub data Heard (m : ℕ) : Dialogue → List Statement → List Response → Dialogue → Type 0 where
  all : {d : Dialogue} → Heard m d [] [] d
  next : {d e : Dialogue} {st : Statement} {sts : List Statement} {rs : List Response} (b b' : Lent) (u : Upshot)
      → length b.numbers ≡ chain_room RULES → length b.words ≡ m → Takes d st b b' u
      → Heard m (dialogue_of u) sts rs e → Heard m d (st ∷ sts) (u.response ∷ rs) e
