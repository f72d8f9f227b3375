-- Intervals of words, and what it is to be the smallest or the largest result over two of them.
use Rattle.std.specs.Prelude.{◌≡◌, Bool, ◌&&◌, ℕ, ◌-◌, ◌≤◌, min, max, leb, ltb}
use Rattle.word.specs.Word.{top}
use Rattle.span.specs.declared.interval.Interval.{Interval}

-- the words from l to h
abbrev pub interval : ℕ → ℕ → Interval
interval l h = record { low = l; high = h }

-- the word a lies in the interval
pub record In (i : Interval) (a : ℕ) : Type 0 where
  pub low : i.low ≤ a
  pub high : a ≤ i.high

-- an interval of words of w bits, with a word in it
pub record Words (w : ℕ) (i : Interval) : Type 0 where
  pub order : i.low ≤ i.high
  pub top : i.high ≤ top w

-- v is the smallest of the results that f has over the words of x and y: a result itself, and no result is below it
pub record Least (f : ℕ → ℕ → ℕ) (x y : Interval) (v : ℕ) : Type 0 where
  pub a : ℕ
  pub b : ℕ
  pub in_x : In x a
  pub in_y : In y b
  pub is : f a b ≡ v
  pub least : (c d : ℕ) → In x c → In y d → v ≤ f c d

-- and the largest
pub record Greatest (f : ℕ → ℕ → ℕ) (x y : Interval) (v : ℕ) : Type 0 where
  pub a : ℕ
  pub b : ℕ
  pub in_x : In x a
  pub in_y : In y b
  pub is : f a b ≡ v
  pub greatest : (c d : ℕ) → In x c → In y d → f c d ≤ v

-- the words that lie in both
unfoldable pub cut : Interval → Interval → Interval
cut i j = interval (max i.low j.low) (min i.high j.high)

-- no word lies in it: low is above high
unfoldable pub hollow : Interval → Bool
hollow i = ltb i.high i.low

-- neither bound is above t
unfoldable pub within : ℕ → Interval → Bool
within t i = leb i.low t && leb i.high t

-- its words turned round at the top word t, a to t - a
unfoldable pub turned : ℕ → Interval → Interval
turned t i = interval (t - i.high) (t - i.low)

-- its words below h
unfoldable pub lower : ℕ → Interval → Interval
lower h i = interval i.low (min i.high (h - 1))

-- its words from h on, less h
unfoldable pub upper : ℕ → Interval → Interval
upper h i = interval (i.low - h) (i.high - h)
