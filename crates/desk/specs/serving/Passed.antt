-- What is handed on from one part of the input to the next.
use Rattle.std.specs.Prelude.{List, ℕ}
use Rattle.frame.specs.exchange.route.Desk.{Desk}
use Rattle.frame.specs.exchange.route.Statements.{Takes}

-- a desk after all bytes of a part went in, each once and in order
pub record Passed (d : Desk) (part : List ℕ) (e : Desk) : Type 0 where
  pub bytes : List ℕ
  pub takes : Takes d part e bytes
