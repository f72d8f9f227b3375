-- Joins worked by hand, as one table, and the bounds of document 000 that are looser than the exact span.
use Rattle.std.specs.Prelude.{Bool, true, false, List, [], ◌∷◌, ℕ, suc, ◌+◌, ◌-◌, ◌*◌, ◌/◌, ◌^◌, eqb}
use Rattle.std.specs.Int.Bits.{bit_and}
use Rattle.word.specs.Search.{first}
use Rattle.span.specs.declared.interval.Interval.{Interval}
use Rattle.span.specs.declared.Joined.{Joined}
use Rattle.span.specs.declared.interval.Op.{Op}
use Rattle.span.specs.declared.interval.Op.TheVariants.{And, Not, Or, Xor}
use Rattle.span.specs.interval.Interval.{interval}
use Rattle.span.specs.extent.Span.{word_of}

-- 000: "it is checked whether the bounds have a common bit-prefix"; how many bits trail it, at width w
unfoldable pub trailing : ℕ → Interval → ℕ
trailing w i = word_of (first (λ k. eqb (i.low / 2 ^ k) (i.high / 2 ^ k)) (suc w) 0)

-- 000: "trailing bits are 0"
unfoldable pub zeros : ℕ → Interval → ℕ
zeros w i = i.low / 2 ^ trailing w i * 2 ^ trailing w i

-- 000: "trailing bits are 1"
unfoldable pub ones : ℕ → Interval → ℕ
ones w i = zeros w i + (2 ^ trailing w i - 1)

-- the prefix bounds of 000 for an AND
unfoldable pub prefix_and : ℕ → Interval → Interval → Interval
prefix_and w x y = interval (bit_and (zeros w x) (zeros w y)) (bit_and (ones w x) (ones w y))

-- width, operation, the intervals of h, x and y, and the answer
pub record Case : Type 0 where
  pub width : ℕ
  pub op : Op
  pub h : Interval
  pub x : Interval
  pub y : Interval
  pub expected : Joined

abbrev pub says : ℕ → Bool → Interval → Interval → Interval → Joined
says n e h x y = record { number = n; empty = e; h = h; x = x; y = y }

abbrev pub case : ℕ → Op → Interval → Interval → Interval → Joined → Case
case w op h x y a = record { width = w; op = op; h = h; x = x; y = y; expected = a }

abbrev pub cases : List Case
cases =
    -- the AND of 1 to 2 and 3 is 1 to 2; the prefix bounds say 0 to 3. The arguments stay.
    case 3 And (interval 0 7) (interval 1 2) (interval 3 3) (says 0 false (interval 1 2) (interval 1 2) (interval 3 3))
    -- AND and OR of 1 to 3 and 2 to 3
    ∷ case 2 And (interval 0 3) (interval 1 3) (interval 2 3) (says 0 false (interval 0 3) (interval 1 3) (interval 2 3))
    ∷ case 2 Or (interval 0 3) (interval 1 3) (interval 2 3) (says 0 false (interval 2 3) (interval 1 3) (interval 2 3))
    -- XOR cuts all three, each by the other two as given
    ∷ case 3 Xor (interval 0 1) (interval 2 7) (interval 0 5) (says 0 false (interval 0 1) (interval 2 5) (interval 2 5))
    -- NOT turns x round; its y is neither tested nor changed
    ∷ case 3 Not (interval 0 7) (interval 1 2) (interval 9 8) (says 0 false (interval 5 6) (interval 1 2) (interval 9 8))
    ∷ case 3 Not (interval 6 7) (interval 0 2) (interval 0 0) (says 0 false (interval 6 7) (interval 0 1) (interval 0 0))
    -- an OR is never below its arguments: empty, and the intervals as they came
    ∷ case 3 Or (interval 0 3) (interval 4 7) (interval 0 1) (says 0 true (interval 0 3) (interval 4 7) (interval 0 1))
    -- 2 before 5 before 15
    ∷ case 0 And (interval 9 8) (interval 0 0) (interval 0 0) (says 2 false (interval 9 8) (interval 0 0) (interval 0 0))
    ∷ case 65 And (interval 0 0) (interval 0 0) (interval 0 0) (says 2 false (interval 0 0) (interval 0 0) (interval 0 0))
    ∷ case 3 And (interval 9 8) (interval 0 0) (interval 0 0) (says 5 false (interval 9 8) (interval 0 0) (interval 0 0))
    ∷ case 3 And (interval 0 7) (interval 0 0) (interval 2 1) (says 15 false (interval 0 7) (interval 0 0) (interval 2 1))
    ∷ []
