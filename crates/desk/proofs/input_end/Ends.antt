-- What the end of the input comes to where no line is begun. Assumes nothing.
use mathlib.Core.Path.{◌≡◌}
use mathlib.Core.List.{List, []}
use Prim.Native.Nat.{ℕ}
use native.Mathlib.Omega.{arith}
use Rattle.frame.proofs.fields.Lines.{put_none}
use Rattle.frame.specs.exchange.route.Desk.{Desk}
use Rattle.frame.specs.exchange.route.Statements.{Finished, no_line}

pub no_answer : (d : Desk) (b : List ℕ) → d.begun.len ≡ 0 → Finished d b b 0
no_answer d b h = record { bytes = []; ends = no_line h; puts = put_none b 0 (omega arith) }
