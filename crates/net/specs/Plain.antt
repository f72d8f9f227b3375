-- The plain rule, with no count of the steps that changed nothing: the words after each step, and the first step with a reason to stop.
use Rattle.std.specs.Prelude.{◌≡◌, Bool, true, false, List, ℕ, zero, suc, ◌+◌, ◌≤◌, ◌<◌}
use Rattle.span.specs.declared.interval.Interval.{Interval}
use Rattle.net.specs.declared.Answer.{Answer}
use Rattle.net.specs.declared.Ended.{Ended}
use Rattle.net.specs.declared.Ended.TheVariants.{Empty, Refused, Spent, Steady}
use Rattle.net.specs.declared.Net.{Net}
use Rattle.net.specs.Net.{turn}
use Rattle.net.specs.net_step.Step.{emptied, left}

-- the words after n steps: "one step is one join, in order, round and round"
unfoldable pub words_after : Net → ℕ → List Interval
words_after net zero = net.words
words_after net (suc n) = left net.width (turn net.joins net.joined n) (words_after net n)

-- "a cut is empty", in the last of n steps
unfoldable pub empty_at : Net → ℕ → Bool
empty_at net zero = false
empty_at net (suc n) = emptied net.width (turn net.joins net.joined n) (words_after net n)

-- the last q of n steps "changed nothing"
pub record QuietFor (net : Net) (n q : ℕ) : Type 0 where
  pub taken : q ≤ n
  pub same : (i : ℕ) → i < n → n ≤ i + q → words_after net (suc i) ≡ words_after net i

-- a reason to stop after n steps: "a cut is empty; as many steps in a row as there are joins changed nothing; the steps are spent"
unfoldable pub Reason : Net → (pay n : ℕ) → Ended → Type 0
Reason net pay n Empty = empty_at net n ≡ true
Reason net pay n Steady = QuietFor net n net.joined
Reason net pay n Spent = n ≡ pay
Reason net pay n (Refused k) = ⊥

-- the reasons in the order of that list
unfoldable pub order : Ended → ℕ
order Empty = 1
order Steady = 2
order Spent = 3
order (Refused k) = 4

-- "Stop at the first of"; "Where one step meets two of these, the earlier in this list is answered"; "The answer has the steps used ...
-- and the intervals"
pub record Stops (net : Net) (pay : ℕ) (r : Answer) : Type 0 where
  pub reason : Reason net pay r.steps r.ended
  pub first : (n : ℕ) → n < r.steps → (e : Ended) → Reason net pay n e → ⊥
  pub earlier : (e : Ended) → order e < order r.ended → Reason net pay r.steps e → ⊥
  pub words : r.words ≡ words_after net r.steps
