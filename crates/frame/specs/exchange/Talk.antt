-- What parts of an input are, and what was written of them.
use Rattle.std.specs.Prelude.{List, [], ◌++◌, ℕ, take}
use Rattle.frame.specs.exchange.route.Desk.{Desk, Fed}
use Rattle.frame.specs.exchange.route.Statements.{FedSo}

-- Parts go in one after the other, each with any outcome that satisfies what feeding promises; what a feeding leaves of a part
-- may go in again. The input is what was used of each, and the output what each wrote.
pub data Talk : Desk → List ℕ → Desk → List ℕ → Type 0 where
  silence : {d : Desk} → Talk d [] d []
  a_part : {d e : Desk} {more o : List ℕ} (part b b' : List ℕ) (r : Fed) → FedSo d part b b' r → Talk r.desk more e o
      → Talk d (take r.used part ++ more) e (take r.written b' ++ o)
