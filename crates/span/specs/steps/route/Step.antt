-- A route down the bits: what the highest bit of two intervals of words settles of the smallest result, and what the largest result is by
-- words turned round. It is no meaning: what it says is said of the smallest and the largest result themselves.
use Rattle.std.specs.Prelude.{◌≡◌, ℕ, ◌+◌, ◌-◌, ◌≤◌}
use Rattle.word.specs.Word.{half, top}
use Rattle.span.specs.declared.interval.Interval.{Interval}
use Rattle.span.specs.declared.steps.Step.{Step}
use Rattle.span.specs.declared.steps.Step.TheVariants.{Settled, Open}
use Rattle.span.specs.interval.Interval.{Least, Words}
use Rattle.span.specs.extent.Span.{largest, smallest}

-- the smallest result over x and y is the bit and the smallest result over p and q, which have that bit no more
pub record Opens (w : ℕ) (f : ℕ → ℕ → ℕ) (x y : Interval) (bit : ℕ) (p q : Interval) : Type 0 where
  pub small : bit ≤ half w
  pub x_words : Words (w - 1) p
  pub y_words : Words (w - 1) q
  pub carries : (v : ℕ) → Least f p q v → Least f x y (bit + v)

-- a step is right where it has the smallest result, or leads on to it
unfoldable pub Right : ℕ → (ℕ → ℕ → ℕ) → Interval → Interval → Step → Type 0
Right w f x y (Settled v) = Least f x y v
Right w f x y (Open bit p q) = Opens w f x y bit p q

-- the largest result of f over x and y is the smallest one of g over u and v, turned back
pub record Turns (w : ℕ) (f g : ℕ → ℕ → ℕ) (x y u v : Interval) : Type 0 where
  pub x_words : Words w u
  pub y_words : Words w v
  pub back : largest w f x y ≡ top w - smallest w g u v
