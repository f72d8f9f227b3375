-- Which text a signed word has, by the test that the definition makes. Assumes nothing.
use mathlib.Core.Path.{◌≡◌}
use mathlib.Core.List.{◌∷◌}
use Prim.Native.Nat.{ℕ, ◌≤◌, ◌<◌}
use borrow.Author.Tests.{le-ltb, lt-ltb}
use Rattle.digits.specs.hexadecimal.Text.{bytes_of}
use Rattle.word.specs.Word.{half, minus}
use Rattle.digits.specs.phrase.Phrase.{decimal, signedly}

pub signed_low : (w a : ℕ) → a < half w → signedly w a ≡ decimal a
unfolding signedly
signed_low w a h = rw (lt-ltb a (half w) h)

pub signed_high : (w a : ℕ) → half w ≤ a → signedly w a ≡ 45 ∷ decimal (minus w 0 a)
unfolding signedly bytes_of
signed_high w a h = rw (le-ltb a (half w) h)
