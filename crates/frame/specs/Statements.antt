-- What answering a line promises.
use Rattle.std.specs.Prelude.{◌≡◌, List, [], ◌∷◌, ℕ, ◌≤◌, length}
use Rattle.sheet.specs.declared.Answer.{Answer}
use Rattle.sheet.specs.declared.slate_ask.Reply.{Reply}
use Rattle.sheet.specs.declared.Sheet.{Sheet}
use Rattle.page.specs.Calls.{Call}
use Rattle.sheet.specs.Statements.{Asked, Outcome}
use Rattle.frame.specs.fields.Answers.{NO_FRAME, ROOM, answer_bytes, ask_lines, number_line}
use Rattle.frame.specs.Calls.{MadeCall, asks, makes, none}
use Rattle.frame.specs.fields.Fields.{Line}
use Rattle.frame.specs.fields.Put.{PutAt}

-- What a line gets on a record, whatever that is: the record after it, and the lines of its answer. Its call is made as that
-- promises, asking with as many numbers lent as it says; where it makes none, the answer is refusal 10.
pub data Said (s : Sheet) : MadeCall → Sheet → List Line → Type 0 where
  answered : (c : Call) (r : Answer) → Outcome s c r → Said s (makes c) r.sheet (number_line r.number ∷ [])
  asked : (m : ℕ) (b b' : List ℕ) (r : Reply) → length b ≡ m → Asked s b b' r → Said s (asks m) s (ask_lines s.edition r b')
  no_call : Said s none s (number_line NO_FRAME ∷ [])

-- what a call gets, written, with the record after it and where the answer ends
pub record Answered (s : Sheet) (c : MadeCall) (b : List ℕ) (at : ℕ) (b' : List ℕ) (t : Sheet) (end : ℕ) : Type 0 where
  pub lines : List Line
  pub said : Said s c t lines
  pub puts : PutAt b at (answer_bytes lines) b' end
  pub fits : length (answer_bytes lines) ≤ ROOM
