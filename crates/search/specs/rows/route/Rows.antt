-- A row a rule, in a lent array: the rule's four numbers, its band, and a note. A route: what is said of the lists of rules and of bands is
-- said elsewhere.
use Rattle.std.specs.Prelude.{ℕ, ◌+◌, ◌-◌, ◌%◌, ◌^◌, cond, List, [], ◌∷◌, ◌++◌, map, take, drop, ◌==◌, slice_index}
use Rattle.rule.specs.declared.Rule.{Rule}
use Rattle.rule.specs.Meaning.{rule}
use Rattle.rule.specs.declared.band.Band.{Band}
use Rattle.rule.specs.band.route.Band.{band_of}
use Rattle.search.specs.rows.route.Bands.{blank_band}

-- form, sense, c1, c2
unfoldable pub rule_in : List ℕ → Rule
rule_in row = rule (slice_index row 0) (slice_index row 1) (slice_index row 2) (slice_index row 3)

-- how far it is up from one machine word to another, and the word so far up from one
unfoldable pub away : (from to : ℕ) → ℕ
away from to = (to + (2 ^ 64 - from)) % 2 ^ 64

unfoldable pub onward : (from far : ℕ) → ℕ
onward from far = (from + far) % 2 ^ 64

-- where the band starts, how far up from there it ends, and 1 where the words inside it fail
unfoldable pub band_in : List ℕ → Band
band_in row = record { from = slice_index row 4; to = onward (slice_index row 4) (slice_index row 5); inside = (slice_index row 6 == 1) }

-- the rules that lie in the rows, and their bands
abbrev pub rules_in : List (List ℕ) → List Rule
rules_in rows = map rule_in rows

abbrev pub bands_in : List (List ℕ) → List Band
bands_in rows = map band_in rows

-- a rule and its band, with no note
unfoldable pub row_of : Rule → Band → List ℕ
row_of r b =
    r.form
    ∷ r.sense
    ∷ r.c1
    ∷ r.c2
    ∷ b.from
    ∷ away b.from b.to
    ∷ cond b.inside 1 0
    ∷ 0
    ∷ 0
    ∷ 0
    ∷ 0
    ∷ 0
    ∷ 0
    ∷ 0
    ∷ []

-- a row that no rule has taken
abbrev pub no_row : List ℕ
no_row = 0 ∷ 0 ∷ 0 ∷ 0 ∷ 0 ∷ 0 ∷ 0 ∷ 0 ∷ 0 ∷ 0 ∷ 0 ∷ 0 ∷ 0 ∷ 0 ∷ []

-- a rule whose band is not laid yet
unfoldable pub bare_row : Rule → List ℕ
bare_row r = row_of r blank_band

-- a row's rule with the band that is the rule's own
unfoldable pub drawn_row : ℕ → List ℕ → List ℕ
drawn_row w row = row_of (rule_in row) (band_of w (rule_in row))

-- the first n rows so
unfoldable pub drawn : (w n : ℕ) → List (List ℕ) → List (List ℕ)
drawn w n rows = take n (map (drawn_row w) rows) ++ drop n rows
