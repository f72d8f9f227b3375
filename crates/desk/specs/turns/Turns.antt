-- What the desk makes of what it reads, turn after turn.
use Rattle.std.specs.Prelude.{◌≡◌, Bool, false, true, List, ℕ, suc}
use Rattle.sheet.specs.Record.{blank}
use Rattle.frame.specs.exchange.route.Begun.{none}
use Rattle.frame.specs.exchange.route.Desk.{Desk, desk}
use Rattle.desk.specs.feed.route.Statements.{desk_of}
use Rattle.coming.specs.declared.Came.{Came}
use Rattle.coming.specs.declared.Came.TheVariants.{Interrupted}
use Rattle.coming.specs.Calls.{goes_on}
use Rattle.desk.specs.declared.turn.Turn.{Turn}
use Rattle.desk.specs.one_turn.Turned.{Turned}
use Rattle.desk.specs.declared.turns.Talk.{Talk}

-- so many turns from the desk before the first byte, each on the desk that the one before it left
pub data Turns : ℕ → Came → (taken : Bool) → Desk → Type 0 where
  none_yet : Turns 0 Interrupted true (desk blank none)
  another : {n : ℕ} {c : Came} {t : Bool} {d : Desk} {input : List ℕ} {r : Turn} {rows : List (List ℕ)} {marks : List ℕ} → Turns n c t d → goes_on c t n ≡ true
      → Turned d input r rows marks → Turns (suc n) r.came r.taken (desk_of r.state rows marks)

-- turns stop only at the end of the input, at a read or a write that fails, or after as many as no run uses up
pub record Stops (r : Talk) (rows : List (List ℕ)) (marks : List ℕ) : Type 0 where
  pub turns : Turns r.turns r.turn.came r.turn.taken (desk_of r.turn.state rows marks)
  pub stops : goes_on r.turn.came r.turn.taken r.turns ≡ false
