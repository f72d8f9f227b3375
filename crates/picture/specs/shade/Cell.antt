-- A cell of a picture, by search over the words of its column: `#` where every word fails, `.` where every word meets, `+` where some do.
use Rattle.std.specs.Prelude.{Bool, not, cond, ℕ}
use Rattle.checker.specs.covering.Check.{every_word}
use Rattle.picture.specs.declared.shade.Cell.{Cell}
use Rattle.picture.specs.declared.shade.Cell.TheVariants.{Fails, Meets, Partly}

unfoldable pub cell_of : (ℕ → Bool) → (from to : ℕ) → Cell
cell_of f from to = cond (every_word (λ (x : ℕ). not (f x)) from to) Fails (cond (every_word f from to) Meets Partly)
