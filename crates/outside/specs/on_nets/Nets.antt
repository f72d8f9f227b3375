-- A net as numbers (02, K12).
use Rattle.std.specs.Prelude.{◌≡◌, cond, List, [], ◌∷◌, map, ℕ, eqb, length, replicate}
use Rattle.net.specs.net_step.Named.{WORDS}
use Rattle.net.specs.net_tests.Fits.{JOINS}
use Rattle.net.specs.declared.Answer.{Answer}
use Rattle.net.specs.declared.Ended.{Ended}
use Rattle.net.specs.declared.Ended.TheVariants.{Empty, Refused, Spent, Steady}
use Rattle.net.specs.declared.Net.{Net}
use Rattle.net.specs.route.Run.{ran}
use Rattle.net.specs.Net.{number}
use Rattle.outside.specs.on_words.Joins.{interval_in}
use Rattle.outside.specs.net_words.Laid.{laid_over, no_word, row_of}
use Rattle.outside.specs.net_joins.Joined.{join_of, no_join}

-- the net of a width, the intervals of its words, a row each, and its joins, a row each
unfoldable pub net_in : ℕ → (words joins : List (List ℕ)) → Net
net_in w ws js =
    record {
      width = w;
      words = laid_over (map interval_in ws) (replicate WORDS no_word);
      count = length ws;
      joins = laid_over (map join_of js) (replicate JOINS no_join);
      joined = length js;
    }

-- how a run ended, as a number; a refusal has zeros
unfoldable pub told : Ended → ℕ
told (Refused n) = 0
told Empty = 0
told Steady = 1
told Spent = 2

-- the intervals that an answer leaves, a row each; "a refusal gives ... the intervals as they came"
unfoldable pub word_rows : Answer → List (List ℕ) → List (List ℕ)
word_rows a ws = cond (eqb (number a.ended) 0) (laid_over (map row_of a.words) ws) ws

-- what a run of a net answers: the number, how it ended and the steps used, and the intervals
pub record Ran (w : ℕ) (ws js : List (List ℕ)) (pay : ℕ) (ws' : List (List ℕ)) (answer : List ℕ) (r : ℕ) : Type 0 where
  pub status : r ≡ number (ran (net_in w ws js) pay).ended
  pub answers : answer ≡ told (ran (net_in w ws js) pay).ended ∷ (ran (net_in w ws js) pay).steps ∷ []
  pub words : ws' ≡ word_rows (ran (net_in w ws js) pay) ws
