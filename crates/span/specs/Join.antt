-- What a join answers: K11 of the paper, a definition for each of its sentences.
use Rattle.std.specs.Prelude.{Bool, true, false, ◌&&◌, ◌||◌, cond, ℕ, eqb, leb}
use Rattle.word.specs.Word.{top}
use Rattle.span.specs.declared.interval.Interval.{Interval}
use Rattle.span.specs.declared.Joined.{Joined}
use Rattle.span.specs.declared.interval.Op.{Op}
use Rattle.span.specs.interval.Interval.{cut, hollow, within}
use Rattle.span.specs.interval.Op.{inverted, second}
use Rattle.span.specs.extent.Span.{span}

-- a width from 1 to 64
unfoldable pub is_width : ℕ → Bool
is_width w = leb 1 w && leb w 64

unfoldable pub all_within : ℕ → Interval → Interval → Interval → Bool
all_within t h x y = within t h && (within t x && within t y)

-- one of them has its low end above its high end
unfoldable pub any_hollow : Interval → Interval → Interval → Bool
any_hollow h x y = hollow h || (hollow x || hollow y)

-- "A width outside 1 to 64 is refused with 2, then bounds above the top word with 5, then an interval with low above high
-- with 15."
unfoldable pub refused : ℕ → Interval → Interval → Interval → ℕ
refused w h x y = cond (is_width w) (cond (all_within (top w) h x y) (cond (any_hollow h x y) 15 0) 5) 2

-- the same of a join: a NOT has no y
unfoldable pub refusal : ℕ → Op → Interval → Interval → Interval → ℕ
refusal w op h x y = refused w h x (second op y)

-- "h's new one is its old one cut with the span"
unfoldable pub new_h : ℕ → Op → Interval → Interval → Interval → Interval
new_h w op h x y = cut h (span w op x y)

-- the inverse of NOT is NOT, x from h, and that of XOR is XOR: x from h and y
unfoldable pub new_x : ℕ → Op → Interval → Interval → Interval → Interval
new_x w op h x y = cond (leb 1 (inverted op)) (cut x (span w op h y)) x

-- and y from h and x
unfoldable pub new_y : ℕ → Op → Interval → Interval → Interval → Interval
new_y w op h x y = cond (leb 2 (inverted op)) (cut y (span w op h x)) y

-- "If a cut is empty the answer is empty."
unfoldable pub emptied : ℕ → Op → Interval → Interval → Interval → Bool
emptied w op h x y = any_hollow (new_h w op h x y) (new_x w op h x y) (second op (new_y w op h x y))

-- "A refusal, and "empty", give the intervals back as they came."
unfoldable pub as_given : ℕ → Bool → Interval → Interval → Interval → Joined
as_given n e h x y = record { number = n; empty = e; h = h; x = x; y = y }

-- every cut reads the intervals as given
unfoldable pub all_cut : ℕ → Op → Interval → Interval → Interval → Joined
all_cut w op h x y =
    record { number = 0; empty = false; h = new_h w op h x y; x = new_x w op h x y; y = new_y w op h x y }

unfoldable pub joined : ℕ → Op → Interval → Interval → Interval → Joined
joined w op h x y =
    cond (eqb (refusal w op h x y) 0)
    (cond (emptied w op h x y) (as_given 0 true h x y) (all_cut w op h x y))
    (as_given (refusal w op h x y) false h x y)
