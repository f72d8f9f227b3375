-- "though the chain may differ": case 10 in both orders, by computing. Assumes nothing.
use mathlib.Core.Path.{◌≡◌, refl}
use mathlib.Core.List.{[], ◌∷◌}
use Rattle.word.specs.Word.{half, minus, plus, signed, top}
use Rattle.word.specs.Search.{climb, first, last, sink}
use Rattle.rule.specs.Meaning.{fits, meets, meets7, reach, rows, rule, written, start}
use Rattle.search.specs.verdict.Kept.{kept, keeps, verdict_of}
use Rattle.chain.specs.Findings.{chain_for, findings, says}
use Rattle.chain.specs.Links.{before, blocks, further, furthest, furthest_of, gap, go_on, link, link_at, link_by, links, links_from}

-- form 6, 9, then form 6, 9 negated; and the other way round
pub chain_differs :
    (findings 4 (rule 6 0 9 0 ∷ rule 6 1 9 0 ∷ []) ≡ says (keeps 0 0 0) (link 0 8 0 ∷ link 9 9 1 ∷ link 10 15 0 ∷ []))
    × (findings 4 (rule 6 1 9 0 ∷ rule 6 0 9 0 ∷ []) ≡ says (keeps 0 0 0) (link 0 8 1 ∷ link 9 9 0 ∷ link 10 15 1 ∷ []))
unfolding
    findings chain_for kept verdict_of links links_from go_on link_at link_by gap before furthest furthest_of further blocks reach start meets7 fits meets written rows first last climb sink top half plus minus signed
chain_differs = (refl, refl)
