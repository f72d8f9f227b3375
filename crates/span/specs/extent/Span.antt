-- The span of an operation, by exhaustive search over the words of its arguments.
use Rattle.std.specs.Prelude.{Bool, true, false, ℕ, suc, ◌-◌, ◌^◌, eqb}
use Rattle.std.specs.Prelude.{Option}
use Rattle.std.specs.Prelude.{Some, None}
use Rattle.word.specs.Search.{first, last}
use Rattle.span.specs.declared.interval.Interval.{Interval}
use Rattle.span.specs.declared.interval.Op.{Op}
use Rattle.span.specs.interval.Interval.{interval}
use Rattle.span.specs.interval.Op.{result, second}

unfoldable pub is_found : Option ℕ → Bool
is_found (Some a) = true
is_found None = false

-- some word of the interval passes
unfoldable pub some : (ℕ → Bool) → Interval → Bool
some f i = is_found (first f (suc i.high - i.low) i.low)

-- some word of x and some word of y give v
unfoldable pub gives : (ℕ → ℕ → ℕ) → Interval → Interval → ℕ → Bool
gives f x y v = some (λ a. some (λ b. eqb (f a b) v) y) x

unfoldable pub word_of : Option ℕ → ℕ
word_of (Some v) = v
word_of None = 0

-- "the smallest ... result that the argument intervals give": the first word that some words of them give
unfoldable pub smallest : ℕ → (ℕ → ℕ → ℕ) → Interval → Interval → ℕ
smallest w f x y = word_of (first (gives f x y) (2 ^ w) 0)

-- "the largest": the last such word
unfoldable pub largest : ℕ → (ℕ → ℕ → ℕ) → Interval → Interval → ℕ
largest w f x y = word_of (last (gives f x y) (2 ^ w))

-- "the span from the smallest to the largest result that the argument intervals give, exactly"
unfoldable pub span : ℕ → Op → Interval → Interval → Interval
span w op x y =
    interval (smallest w (result w op) x (second op y)) (largest w (result w op) x (second op y))
