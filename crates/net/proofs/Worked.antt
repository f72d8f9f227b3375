-- The worked nets, of the definitions themselves: one table and one statement, by computing. Assumes nothing.
use mathlib.Core.Path.{◌≡◌, refl}
use mathlib.Core.List.{map}
use Rattle.word.specs.Word.{top}
use Rattle.word.specs.Search.{first, last}
use Rattle.span.specs.interval.Interval.{cut, hollow, within}
use Rattle.span.specs.Join as join
use Rattle.span.specs.Join.{all_cut, all_within, any_hollow, as_given, is_width, joined, new_h, new_x, new_y, refused}
use Rattle.span.specs.interval.Op.{inverted, result, second}
use Rattle.span.specs.extent.Span.{gives, is_found, largest, smallest, some, span, word_of}
use Rattle.net.specs.Cases.{Case, cases}
use Rattle.net.specs.net_tests.Fits.{every, fits}
use Rattle.net.specs.net_step.Named.{named, place_of, third}
use Rattle.net.specs.Net.{refusal, turn, turned_down}
use Rattle.net.specs.route.Run.{goes, next, ran, shown, start, steady, walked}
use Rattle.net.specs.net_step.Step.{after, cut_all, cut_at, emptied, left, no_word, results, same, stepped, unchanged}

pub worked : map (λ (c : Case). ran c.net c.pay) cases ≡ map (λ (c : Case). c.expected) cases
unfolding
    ran walked turned_down shown goes next stepped left steady start turn after cut_all cut_at emptied no_word results same unchanged every fits named place_of refusal third joined as_given all_cut join.emptied join.refusal new_h new_x new_y inverted refused is_width all_within within any_hollow hollow cut span smallest largest gives some is_found word_of second result first last top
worked = refl
