-- What the exchange promises of a part of the input: a route, byte by byte and line by line. What it comes to over a whole input,
-- however that is cut, is `exchange` (specs/exchange/Exchange.antt), as is proved (proofs/exchange/Whole.antt).
use Rattle.std.specs.Prelude.{◌≡◌, List, [], ◌∷◌, ◌++◌, ℕ, ◌+◌, ◌-◌, ◌≤◌, ◌<◌, drop, length, take}
use Rattle.sheet.specs.declared.Sheet.{Sheet}
use Rattle.frame.specs.fields.Answers.{NEWLINE, ROOM, answer_bytes}
use Rattle.frame.specs.Calls.{line_call}
use Rattle.frame.specs.fields.Fields.{Line}
use Rattle.frame.specs.Statements.{Said}
use Rattle.frame.specs.fields.Put.{PutAt}
use Rattle.frame.specs.input_line.Lines.{with_end}
use Rattle.frame.specs.exchange.route.Begun.{begun_line, none, put}
use Rattle.frame.specs.exchange.route.Desk.{Desk, Fed, desk}

-- what the line that a desk holds gets
abbrev pub LineSaid : Desk → Sheet → List Line → Type 0
LineSaid d t ls = Said d.sheet (line_call (begun_line d.begun)) t ls

-- Bytes go in, one after the other: a byte 10 ends the line, which gets its answer; any other byte goes to the line.
pub data Takes : Desk → List ℕ → Desk → List ℕ → Type 0 where
  nothing : {d : Desk} → Takes d [] d []
  ends_line : {d e : Desk} {t : Sheet} {b : ℕ} {bs o : List ℕ} (ls : List Line) → b ≡ NEWLINE → LineSaid d t ls → Takes (desk t none) bs e o
      → Takes d (b ∷ bs) e (answer_bytes ls ++ o)
  goes_on : {d e : Desk} {b : ℕ} {bs o : List ℕ} → (b ≡ NEWLINE → ⊥) → Takes (desk d.sheet (put d.begun b)) bs e o → Takes d (b ∷ bs) e o

-- A part goes in, line by line, while there is room for an answer.
pub data Feeds : (room : ℕ) → Desk → List ℕ → Desk → (used : ℕ) → List ℕ → Type 0 where
  all_used : {m : ℕ} {d : Desk} → Feeds m d [] d 0 []
  no_room : {m : ℕ} {d : Desk} {bs : List ℕ} → m < ROOM → Feeds m d bs d 0 []
  a_line : {m n : ℕ} {d e f : Desk} {bs o p : List ℕ} → ROOM ≤ m → 0 < length bs → Takes d (with_end bs) e o
      → Feeds (m - length o) e (drop (length (with_end bs)) bs) f n p → Feeds m d bs f (length (with_end bs) + n) (o ++ p)

pub record FedSo (d : Desk) (part b b' : List ℕ) (r : Fed) : Type 0 where
  pub bytes : List ℕ
  pub feeds : Feeds (length b) d part r.desk r.used bytes
  pub puts : PutAt b 0 bytes b' r.written

-- "the last may lack it, and a final byte 10 opens no further line": at the end a line is answered where it has a byte
pub data Ends (d : Desk) : List ℕ → Type 0 where
  no_line : d.begun.len ≡ 0 → Ends d []
  last_line : {t : Sheet} (ls : List Line) → (d.begun.len ≡ 0 → ⊥) → LineSaid d t ls → Ends d (answer_bytes ls)

pub record Finished (d : Desk) (b b' : List ℕ) (n : ℕ) : Type 0 where
  pub bytes : List ℕ
  pub ends : Ends d bytes
  pub puts : PutAt b 0 bytes b' n
