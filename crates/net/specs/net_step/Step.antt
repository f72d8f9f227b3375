-- One step of a net: "one step is one join".
use Rattle.std.specs.Prelude.{Bool, true, false, ◌&&◌, ◌||◌, cond, List, [], ◌∷◌, ℕ, eqb, set}
use Rattle.span.specs.declared.interval.Interval.{Interval}
use Rattle.span.specs.declared.Joined.{Joined}
use Rattle.span.specs.interval.Interval.{cut}
use Rattle.span.specs.Join.{any_hollow, joined}
use Rattle.net.specs.declared.net_step.Join.{Join}
use Rattle.net.specs.declared.net_step.Stepped.{Stepped}
use Rattle.net.specs.net_step.Named.{third, word_at}

-- K11's answer on the words that a join names, as they stand
unfoldable pub results : ℕ → Join → List Interval → Joined
results w j ws = joined w j.op (word_at ws j.h) (word_at ws j.x) (word_at ws (third j))

-- the word at k cut by an interval
unfoldable pub cut_at : ℕ → Interval → List Interval → List Interval
cut_at k i ws = set ws k (cut (word_at ws k) i)

-- "A join that names a word twice cuts it by all its results"
unfoldable pub cut_all : Join → Joined → List Interval → List Interval
cut_all j r ws = cut_at (third j) r.y (cut_at j.x r.x (cut_at j.h r.h ws))

-- the words after all cuts
unfoldable pub after : ℕ → Join → List Interval → List Interval
after w j ws = cut_all j (results w j ws) ws

-- one of the words that a join names has an interval with no word in it
unfoldable pub no_word : Join → List Interval → Bool
no_word j ws = any_hollow (word_at ws j.h) (word_at ws j.x) (word_at ws (third j))

-- "a cut is empty"
unfoldable pub emptied : ℕ → Join → List Interval → Bool
emptied w j ws = (results w j ws).empty || no_word j (after w j ws)

unfoldable pub same : Interval → Interval → Bool
same i j = eqb i.low j.low && eqb i.high j.high

-- "changed nothing", said of the words
unfoldable pub unchanged : List Interval → List Interval → Bool
unchanged [] [] = true
unchanged [] (j ∷ js) = false
unchanged (i ∷ is) [] = false
unchanged (i ∷ is) (j ∷ js) = same i j && unchanged is js

-- "A step that ends in "empty" ... leaves the intervals from before it."
unfoldable pub left : ℕ → Join → List Interval → List Interval
left w j ws = cond (emptied w j ws) ws (after w j ws)

unfoldable pub stepped : ℕ → Join → List Interval → Stepped
stepped w j ws = record { empty = emptied w j ws; quiet = unchanged ws (left w j ws); words = left w j ws }
