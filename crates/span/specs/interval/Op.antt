-- The operations that join words.
use Rattle.std.specs.Prelude.{ℕ}
use Rattle.std.specs.Int.Bits.{bit_and, bit_or, bit_xor}
use Rattle.word.specs.Word.{top}
use Rattle.span.specs.declared.interval.Interval.{Interval}
use Rattle.span.specs.declared.interval.Op.{Op}
use Rattle.span.specs.declared.interval.Op.TheVariants.{Not, And, Or, Xor}
use Rattle.span.specs.interval.Interval.{interval}

-- "h is NOT x, or x AND y, OR y, XOR y, at one width": h from the words a of x and b of y. NOT turns every bit of the width.
unfoldable pub result : ℕ → Op → ℕ → ℕ → ℕ
result w Not a b = bit_xor a (top w)
result w And a b = bit_and a b
result w Or a b = bit_or a b
result w Xor a b = bit_xor a b

-- "a NOT has no y": one word stands in its place, and nothing depends on which
unfoldable pub second : Op → Interval → Interval
second Not y = interval 0 0
second And y = y
second Or y = y
second Xor y = y

-- "For NOT and XOR, the arguments are cut in the same way by the inverse operation; for AND and OR they stay": how many are cut,
-- x first. A NOT has no y.
unfoldable pub inverted : Op → ℕ
inverted Not = 1
inverted And = 0
inverted Or = 0
inverted Xor = 2
