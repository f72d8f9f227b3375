-- Words put into a buffer. A route: what a listing writes is said elsewhere.
use Rattle.std.specs.Prelude.{Bool, true, false, cond, List, [], ◌++◌, ℕ, suc, ◌+◌, ◌-◌, drop, length, take, eqb}
use Rattle.word.specs.Search.{passing}
use Rattle.rule.specs.declared.band.Run.{Run}
use Rattle.rule.specs.declared.bits.Fixed.{Fixed}
use Rattle.rule.specs.declared.bits.Fixed.TheVariants.{Bits, Clash}
use Rattle.rule.specs.bits.route.Fixed.{has_bits}
use Rattle.search.specs.declared.section.Section.{Section}

-- the buffer with words put from a place on, and every other number as it was
unfoldable pub put_at : List ℕ → ℕ → List ℕ → List ℕ
put_at b place xs = take place b ++ (xs ++ drop (place + length xs) b)

-- the words of a section from p on that pass: those that have the bits where the bands hold it, and else none
unfoldable pub section_words : Section → Fixed → ℕ → List ℕ
section_words s f p = cond s.held (passing (has_bits f) (suc s.to - p) p) []

-- no bit is fixed
unfoldable pub is_free : Fixed → Bool
is_free (Bits m v) = eqb m 0
is_free Clash = false

-- the words of a run, one after another
unfoldable pub run_words : Run → List ℕ
run_words r = passing (λ x. true) (suc r.to - r.from) r.from
