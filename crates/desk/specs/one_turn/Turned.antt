-- What the desk makes of one read.
use Rattle.std.specs.Prelude.{◌≡◌, true, List, ℕ, ℤ, length, take}
use Rattle.io.specs.Counts.{clamp_len}
use Rattle.frame.specs.exchange.route.Desk.{Desk}
use Rattle.desk.specs.feed.route.Statements.{desk_of}
use Rattle.coming.specs.Calls.{came_to}
use Rattle.desk.specs.serving.Passed.{Passed}
use Rattle.desk.specs.declared.turn.Turn.{Turn}

-- a turn on a read's answer, with rows and marks as they are then: where the answers are taken, what was read went in whole
pub record Hears (d : Desk) (got error : ℤ) (input : List ℕ) (r : Turn) (rows : List (List ℕ)) (marks : List ℕ) : Type 0 where
  pub came : r.came ≡ came_to got error
  pub passed : r.taken ≡ true → Passed d (take (clamp_len got (length input)) input) (desk_of r.state rows marks)

-- a turn, whatever its read answered and left in the buffer
pub record Turned (d : Desk) (input : List ℕ) (r : Turn) (rows : List (List ℕ)) (marks : List ℕ) : Type 0 where
  pub got : ℤ
  pub error : ℤ
  pub hears : Hears d got error input r rows marks
