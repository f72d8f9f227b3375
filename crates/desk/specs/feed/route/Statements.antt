-- A route: what feeding a part promises on a slate, which is what is promised of the record, and that the slate holds it.
use Rattle.std.specs.Prelude.{List, ℕ}
use Rattle.sheet.specs.slate.route.Held.{Held}
use Rattle.sheet.specs.route.Held.{packed}
use Rattle.frame.specs.exchange.route.Desk.{Desk, desk, fed}
use Rattle.frame.specs.exchange.route.Statements.{FedSo}
use Rattle.desk.specs.declared.feed.Fed.{Fed}
use Rattle.desk.specs.declared.feed.State.{State}

-- the desk that a state, rows and marks stand for
abbrev pub desk_of : State → (rows : List (List ℕ)) (marks : List ℕ) → Desk
desk_of s rows marks = desk (packed s.head rows marks) s.begun

pub record FedOn (d : Desk) (part b b' : List ℕ) (r : Fed) (rows : List (List ℕ)) (marks : List ℕ) : Type 0 where
  pub so : FedSo d part b b' (fed (desk_of r.state rows marks) r.used r.written)
  pub held : Held r.state.head rows marks
