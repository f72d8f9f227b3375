-- The worked joins, of the definitions themselves: one table and one statement, by computing; and the prefix bounds of 000 beside
-- the exact span, on an interval of each side and on 000's own example. Assumes nothing.
use mathlib.Core.Path.{◌≡◌, refl}
use mathlib.Core.List.{map}
use Rattle.word.specs.Word.{top}
use Rattle.word.specs.Search.{first, last}
use Rattle.span.specs.declared.interval.Op.TheVariants.{And}
use Rattle.span.specs.Cases.{Case, cases, ones, prefix_and, trailing, zeros}
use Rattle.span.specs.interval.Interval.{cut, hollow, interval, within}
use Rattle.span.specs.Join.{all_cut, all_within, any_hollow, as_given, emptied, is_width, joined, new_h, new_x, new_y, refusal, refused}
use Rattle.span.specs.interval.Op.{inverted, result, second}
use Rattle.span.specs.extent.Span.{gives, is_found, largest, smallest, some, span, word_of}

pub worked : map (λ (c : Case). joined c.width c.op c.h c.x c.y) cases ≡ map (λ (c : Case). c.expected) cases
unfolding
    joined as_given all_cut emptied new_h new_x new_y inverted refusal refused is_width all_within within any_hollow hollow cut span smallest largest gives some is_found word_of second result first last top
worked = refl

-- "The exact span decides, not the looser prefix bounds of 000."
pub looser : prefix_and 3 (interval 1 2) (interval 3 3) ≡ interval 0 3
unfolding prefix_and zeros ones trailing word_of first
looser = refl

-- 000's own example, at bitwidth 8: 16 to 31 by the prefixes
pub prefix_example : prefix_and 8 (interval 18 30) (interval 89 92) ≡ interval 16 31
unfolding prefix_and zeros ones trailing word_of first
prefix_example = refl

-- exactly 16 to 28
pub exact_example : span 8 And (interval 18 30) (interval 89 92) ≡ interval 16 28
unfolding span smallest largest gives some is_found word_of second result first last
exact_example = refl
