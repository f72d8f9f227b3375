-- A join of words that lie at places, and which of them it names.
use Rattle.std.specs.Prelude.{Bool, ◌&&◌, List, ℕ, ◌<◌, ltb, get_or}
use Rattle.span.specs.declared.interval.Interval.{Interval}
use Rattle.span.specs.declared.interval.Op.{Op}
use Rattle.span.specs.declared.interval.Op.TheVariants.{And, Not, Or, Xor}
use Rattle.span.specs.interval.Interval.{interval}
use Rattle.net.specs.declared.net_step.Join.{Join}

-- "up to 16 words with intervals"
abbrev pub WORDS : ℕ
WORDS = 16

-- the interval of the word at a place
abbrev pub word_at : List Interval → ℕ → Interval
word_at ws k = get_or ws k (interval 0 0)

unfoldable pub place_of : Op → (x y : ℕ) → ℕ
place_of Not x y = x
place_of And x y = y
place_of Or x y = y
place_of Xor x y = y

-- the place of a join's y: "a NOT's y isn't read", and its x stands there, which a NOT gives back as it came
unfoldable pub third : Join → ℕ
third j = place_of j.op j.x j.y

-- the words that a join names are among the first n
unfoldable pub named : ℕ → Join → Bool
named n j = ltb j.h n && (ltb j.x n && ltb (third j) n)

-- the same as a fact
pub record Named (n : ℕ) (j : Join) : Type 0 where
  pub h : j.h < n
  pub x : j.x < n
  pub y : third j < n
