-- The verdict, by search over all words (01, "What a sheet is").
use Rattle.std.specs.Prelude.{cond, List, ℕ, ◌^◌, eqb}
use Rattle.std.specs.Prelude.{Option}
use Rattle.std.specs.Prelude.{Some, None}
use Rattle.word.specs.Search.{first, last}
use Rattle.rule.specs.declared.Rule.{Rule}
use Rattle.rule.specs.Meaning.{fits}
use Rattle.search.specs.declared.verdict.Kept.{Kept}

-- a verdict with its two words
abbrev pub keeps : (verdict smallest largest : ℕ) → Kept
keeps verdict smallest largest = record { verdict = verdict; smallest = smallest; largest = largest }

-- "the kept verdict (0 none, 1 one, 2 many)"; "for none both words are 0"
unfoldable pub verdict_of : (smallest largest : Option ℕ) → Kept
verdict_of None _ = keeps 0 0 0
verdict_of (Some a) None = keeps 0 0 0
verdict_of (Some a) (Some b) = keeps (cond (eqb a b) 1 2) a b

-- what is kept of a list of rules: read off the first and the last of all words that fit
unfoldable pub kept : ℕ → List Rule → Kept
kept w rs = verdict_of (first (fits w rs) (2 ^ w) 0) (last (fits w rs) (2 ^ w))
