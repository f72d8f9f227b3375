-- A net of words, and what refuses it: K12 of the paper, a definition for each of its sentences.
use Rattle.std.specs.Prelude.{not, cond, List, ℕ, ◌%◌, ◌≤◌, ◌<◌}
use Rattle.word.specs.Word.{top}
use Rattle.span.specs.interval.Interval.{hollow, within}
use Rattle.span.specs.Join.{is_width}
use Rattle.net.specs.declared.net_step.Join.{Join}
use Rattle.net.specs.net_step.Named.{Named, WORDS, word_at}
use Rattle.net.specs.net_tests.Fits.{JOINS, every, fits, join_at}
use Rattle.net.specs.declared.Net.{Net}
use Rattle.net.specs.declared.Answer.{Answer}
use Rattle.net.specs.declared.Ended.{Ended}
use Rattle.net.specs.declared.Ended.TheVariants.{Empty, Refused, Spent, Steady}
use Rattle.span.specs.declared.interval.Interval.{Interval}

-- of the first m joins, the one whose turn it is after n steps: "in order, round and round"
unfoldable pub turn : List Join → ℕ → ℕ → Join
turn js m n = join_at js (n % m)

-- "16, before anything else; then 2, 5 and 15 as in K11", of the words in use
unfoldable pub refusal : Net → ℕ
refusal net =
    cond (fits net.count net.joins net.joined)
    (cond (is_width net.width)
    (cond (every net.count (λ k. within (top net.width) (word_at net.words k)))
    (cond (every net.count (λ k. not (hollow (word_at net.words k)))) 0 15)
    5)
    2)
    16

abbrev pub given : Ended → (steps : ℕ) → List Interval → Answer
given e steps ws = record { ended = e; steps = steps; words = ws }

-- "A refusal gives 0 steps and the intervals as they came."
unfoldable pub turned_down : Net → ℕ → Answer
turned_down net n = given (Refused n) 0 net.words

-- the paper's number for each way to end: that of the refusal, and 0 where nothing is refused
unfoldable pub number : Ended → ℕ
number (Refused n) = n
number Empty = 0
number Steady = 0
number Spent = 0

-- what the walk asks of a net: as many joins as there are places, and words for all of them
pub record AllNamed (net : Net) : Type 0 where
  pub joins : net.joined ≤ JOINS
  pub names : (k : ℕ) → k < net.joined → Named WORDS (join_at net.joins k)
