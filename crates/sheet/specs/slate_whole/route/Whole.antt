-- What a slate stands for, as one value, and what a call and asking on such a value come to. A route: what they must answer is said of the
-- record that has the same numbers (sheet: specs/Statements.antt).
use Rattle.std.specs.Prelude.{◌≡◌, List, ℕ}
use Rattle.search.specs.rows.route.Rows.{rules_in}
use Rattle.sheet.specs.declared.slate.Head.{Head}
use Rattle.sheet.specs.slate.route.Held.{Held}
use Rattle.sheet.specs.declared.slate_make.Call.{Call}
use Rattle.sheet.specs.slate_make.route.Makes.{Makes}
use Rattle.sheet.specs.declared.slate_ask.Reply.{Reply}
use Rattle.sheet.specs.slate_ask.route.Asks.{Asks}
use Rattle.sheet.specs.declared.slate_whole.Whole.{Whole}

unfoldable pub whole_of : Head → List (List ℕ) → (marks : List ℕ) → Whole
whole_of h rows marks = record { opening = h.opening; counts = h.counts; kept = h.kept; rules = rules_in rows; marks = marks }

-- a slate that stands for a value, tested
pub record LaidOut (v : Whole) : Type 0 where
  pub head : Head
  pub rows : List (List ℕ)
  pub marks : List ℕ
  pub same : whole_of head rows marks ≡ v
  pub held : Held head rows marks

-- the call is made where the value is laid out, and what the slate then stands for is handed back
pub record CalledWhole (v : Whole) (c : Call) (n : ℕ) (v' : Whole) : Type 0 where
  pub from : LaidOut v
  pub head : Head
  pub rows : List (List ℕ)
  pub marks : List ℕ
  pub makes : Makes from.head from.rows from.marks c n head rows marks
  pub left : v' ≡ whole_of head rows marks

-- and so it is asked
pub record AskedWhole (v : Whole) (b b' : List ℕ) (r : Reply) : Type 0 where
  pub from : LaidOut v
  pub asks : Asks from.head from.rows b b' r
