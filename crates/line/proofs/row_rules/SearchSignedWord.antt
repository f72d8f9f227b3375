-- The lemmas that the goals of `signed_word` want, whatever its tests are named. Assumes nothing.
use native.Mathlib.Omega.{arith}
use mathlib.Core.Path.{◌≡◌}
use mathlib.Core.Bool.{Bool, true, false}
use Prim.Native.Nat.{ℕ, ◌<◌}
use borrow.Author.Tests.{le-leb, le-ltb, lt-leb, lt-ltb}
use Rattle.word.specs.Word.{half}
use Rattle.std.specs.Prelude.{None}
use Rattle.line.specs.row_rules.Rules.{signed_word}

pub too_large : (w : ℕ) (b : Bool) (n : ℕ) → half w < n → None ≡ signed_word w b n
unfolding signed_word
too_large w true n h = rw (lt-leb n (half w) h)
too_large w false n h = rw (le-ltb n (half w) (omega arith))

pub ruleset wanted = (le-leb, le-ltb, lt-leb, lt-ltb, too_large)
