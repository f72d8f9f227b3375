-- A route to the plain rule (`Plain`): the same steps, with a count of those in a row that changed nothing; and the answer.
use Rattle.std.specs.Prelude.{Bool, false, cond, List, ℕ, zero, suc, eqb, leb}
use Rattle.span.specs.declared.interval.Interval.{Interval}
use Rattle.net.specs.declared.Answer.{Answer}
use Rattle.net.specs.declared.Ended.{Ended}
use Rattle.net.specs.declared.Ended.TheVariants.{Empty, Spent, Steady}
use Rattle.net.specs.declared.net_step.Join.{Join}
use Rattle.net.specs.declared.Net.{Net}
use Rattle.net.specs.Net.{refusal, turn, given, turned_down}
use Rattle.net.specs.net_step.Step.{stepped}

-- where a run stands: the words, the steps used, how many steps in a row, up to here, changed nothing, and whether the last one found
-- an empty cut
pub record Stand : Type 0 where
  pub words : List Interval
  pub steps : ℕ
  pub quiet : ℕ
  pub empty : Bool

abbrev pub stand : List Interval → ℕ → ℕ → Bool → Stand
stand ws n q e = record { words = ws; steps = n; quiet = q; empty = e }

unfoldable pub start : List Interval → Stand
start ws = stand ws 0 0 false

-- a step: every one is counted, and those in a row that change nothing
unfoldable pub next : (w : ℕ) (js : List Join) (m : ℕ) → Stand → Stand
next w js m s =
    let r = stepped w (turn js m s.steps) s.words in
    stand r.words (suc s.steps) (cond r.quiet (suc s.quiet) 0) r.empty

-- how a run ended, and where it stood then
pub record Stop : Type 0 where
  pub how : Ended
  pub at : Stand

abbrev pub stop : Ended → Stand → Stop
stop e s = record { how = e; at = s }

-- "as many steps in a row as there are joins changed nothing"
unfoldable pub steady : ℕ → Stand → Bool
steady m s = leb m s.quiet

-- "Stop at the first of: a cut is empty; as many steps in a row as there are joins changed nothing; the steps are spent. Where one
-- step meets two of these, the earlier in this list is answered." With so many steps to pay for, from where a run stands.
unfoldable pub goes : (w : ℕ) (js : List Join) (m : ℕ) → ℕ → Stand → Stop
goes w js m zero s = cond s.empty (stop Empty s) (cond (steady m s) (stop Steady s) (stop Spent s))
goes w js m (suc k) s = cond s.empty (stop Empty s) (cond (steady m s) (stop Steady s) (goes w js m k (next w js m s)))

-- "The answer has the steps used, ... and the intervals."
unfoldable pub shown : Stop → Answer
shown o = given o.how o.at.steps o.at.words

unfoldable pub walked : Net → ℕ → Answer
walked net pay = shown (goes net.width net.joins net.joined pay (start net.words))

unfoldable pub ran : Net → ℕ → Answer
ran net pay = cond (eqb (refusal net) 0) (walked net pay) (turned_down net (refusal net))
