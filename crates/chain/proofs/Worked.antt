-- The worked cases that 01 marks P, of the meanings themselves: one table and one statement, by computing. Assumes nothing.
use mathlib.Core.Path.{◌≡◌, refl}
use mathlib.Core.List.{map}
use Rattle.word.specs.Word.{half, minus, plus, signed, top}
use Rattle.word.specs.Search.{climb, first, last, passing, sink}
use Rattle.rule.specs.Meaning.{fits, meets, meets7, reach, rows, written, start}
use Rattle.search.specs.verdict.Kept.{kept, verdict_of}
use Rattle.chain.specs.Findings.{findings, chain_for}
use Rattle.chain.specs.Cases.{Case, case6, case6_words, cases}
use Rattle.chain.specs.Links.{before, blocks, further, furthest, furthest_of, gap, go_on, link_at, link_by, links, links_from}

pub worked : map (λ (c : Case). findings c.width c.rules) cases ≡ map (λ (c : Case). c.expected) cases
unfolding
    findings chain_for kept verdict_of links links_from go_on link_at link_by gap before furthest furthest_of further blocks reach start meets7 fits meets written rows first last climb sink top half plus minus signed
worked = refl

-- case 6 has seven words
pub case_6_words : passing (fits 4 case6) 16 0 ≡ case6_words
unfolding passing fits meets written rows top half plus minus signed
case_6_words = refl
