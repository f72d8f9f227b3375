-- Nets worked by hand, as one table: at width 2, a word a place, with the places that are not in use left out.
use Rattle.std.specs.Prelude.{List, [], ◌∷◌, ℕ, length}
use Rattle.span.specs.declared.interval.Interval.{Interval}
use Rattle.span.specs.declared.interval.Op.{Op}
use Rattle.span.specs.declared.interval.Op.TheVariants.{And, Not, Xor}
use Rattle.span.specs.interval.Interval.{interval}
use Rattle.net.specs.declared.Answer.{Answer}
use Rattle.net.specs.declared.Ended.{Ended}
use Rattle.net.specs.declared.Ended.TheVariants.{Empty, Refused, Spent, Steady}
use Rattle.net.specs.declared.net_step.Join.{Join}
use Rattle.net.specs.declared.Net.{Net}

-- a net, the steps that are paid for, and the answer
pub record Case : Type 0 where
  pub net : Net
  pub pay : ℕ
  pub expected : Answer

abbrev pub join : Op → (h x y : ℕ) → Join
join op h x y = record { op = op; h = h; x = x; y = y }

abbrev pub case : (width : ℕ) → List Interval → List Join → (pay : ℕ) → Ended → (steps : ℕ) → List Interval → Case
case w ws js pay e steps vs =
    record {
      net = record { width = w; words = ws; count = length ws; joins = js; joined = length js };
      pay = pay;
      expected = record { ended = e; steps = steps; words = vs };
    }

abbrev free : Interval
free = interval 0 3

-- the interval of one word
abbrev is : ℕ → Interval
is a = interval a a

abbrev pub cases : List Case
cases =
    -- "A net without joins answers steady at 0 steps; with joins and 0 steps to pay, spent."
    case 2 (free ∷ []) [] 5 Steady 0 (free ∷ [])
    ∷ case 2 (free ∷ is 1 ∷ []) (join Not 0 1 0 ∷ []) 0 Spent 0 (free ∷ is 1 ∷ [])
    -- one step cuts the first word, a second one finds nothing to change; where two are paid for, steady is the earlier
    ∷ case 2 (free ∷ is 1 ∷ []) (join Not 0 1 0 ∷ []) 1 Spent 1 (is 2 ∷ is 1 ∷ [])
    ∷ case 2 (free ∷ is 1 ∷ []) (join Not 0 1 0 ∷ []) 2 Steady 2 (is 2 ∷ is 1 ∷ [])
    ∷ case 2 (free ∷ is 1 ∷ []) (join Not 0 1 0 ∷ []) 9 Steady 2 (is 2 ∷ is 1 ∷ [])
    -- in order, round and round: the second join waits for its turn, and the first for what the second finds
    ∷ case 2 (free ∷ free ∷ is 1 ∷ []) (join Not 0 1 0 ∷ join Not 1 2 0 ∷ []) 1 Spent 1 (free ∷ free ∷ is 1 ∷ [])
    ∷ case 2 (free ∷ free ∷ is 1 ∷ []) (join Not 0 1 0 ∷ join Not 1 2 0 ∷ []) 2 Spent 2 (free ∷ is 2 ∷ is 1 ∷ [])
    ∷ case 2 (free ∷ free ∷ is 1 ∷ []) (join Not 0 1 0 ∷ join Not 1 2 0 ∷ []) 9 Steady 5 (is 1 ∷ is 2 ∷ is 1 ∷ [])
    -- three joins: what the third finds in step 3 reaches the second in step 5 and the first in step 7, and steps 8 to 10 change nothing
    ∷ case 2 (free ∷ free ∷ free ∷ is 1 ∷ []) (join Not 0 1 0 ∷ join Not 1 2 0 ∷ join Not 2 3 0 ∷ []) 99 Steady 10 (is 2 ∷ is 1 ∷ is 2 ∷ is 1 ∷ [])
    -- in this order it reaches the others in steps 4 and 5, and steps 6 to 8 change nothing
    ∷ case 2 (free ∷ free ∷ free ∷ is 1 ∷ []) (join Not 1 2 0 ∷ join Not 0 1 0 ∷ join Not 2 3 0 ∷ []) 7 Spent 7 (is 2 ∷ is 1 ∷ is 2 ∷ is 1 ∷ [])
    ∷ case 2 (free ∷ free ∷ free ∷ is 1 ∷ []) (join Not 1 2 0 ∷ join Not 0 1 0 ∷ join Not 2 3 0 ∷ []) 99 Steady 8 (is 2 ∷ is 1 ∷ is 2 ∷ is 1 ∷ [])
    -- "A step that ends in "empty" is counted and leaves the intervals from before it": 1 is not NOT 1. The first of these steps meets all
    -- three ends, and empty is the earliest
    ∷ case 2 (is 1 ∷ is 1 ∷ []) (join Not 0 1 0 ∷ []) 1 Empty 1 (is 1 ∷ is 1 ∷ [])
    ∷ case 2 (free ∷ is 1 ∷ is 1 ∷ []) (join Not 0 1 0 ∷ join Not 2 1 0 ∷ []) 2 Empty 2 (is 2 ∷ is 1 ∷ is 1 ∷ [])
    -- "A join that names a word twice cuts it by all its results": NOT x of 0 to 1 is 2 to 3, and no word is both
    ∷ case 2 (interval 0 1 ∷ []) (join Not 0 0 7 ∷ []) 1 Empty 1 (interval 0 1 ∷ [])
    -- h is x: x AND 1 is 0 to 1, and x stays 0 to 3: cut by both
    ∷ case 2 (free ∷ is 1 ∷ []) (join And 0 0 1 ∷ []) 9 Steady 2 (interval 0 1 ∷ is 1 ∷ [])
    -- h is x in an XOR: both are cut alike
    ∷ case 2 (interval 0 2 ∷ is 3 ∷ []) (join Xor 0 0 1 ∷ []) 9 Steady 2 (interval 1 2 ∷ is 3 ∷ [])
    -- 16, "before anything else" (here before 2); "a NOT's y isn't read"
    ∷ case 0 (free ∷ []) (join Not 0 1 0 ∷ []) 9 (Refused 16) 0 (free ∷ [])
    ∷ case 0 (free ∷ []) (join And 0 0 1 ∷ []) 9 (Refused 16) 0 (free ∷ [])
    ∷ case 0 (free ∷ []) (join Not 0 0 1 ∷ []) 9 (Refused 2) 0 (free ∷ [])
    -- "then 2, 5 and 15 as in K11"
    ∷ case 65 (interval 9 8 ∷ []) [] 9 (Refused 2) 0 (interval 9 8 ∷ [])
    ∷ case 2 (interval 2 1 ∷ interval 0 4 ∷ []) [] 9 (Refused 5) 0 (interval 2 1 ∷ interval 0 4 ∷ [])
    ∷ case 2 (free ∷ interval 2 1 ∷ []) [] 9 (Refused 15) 0 (free ∷ interval 2 1 ∷ [])
    ∷ []
