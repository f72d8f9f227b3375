-- How many sections there are: each but the last ends where a band turns. A route, as a band is.
use Rattle.std.specs.Prelude.{Bool, not, cond, List, [], ◌∷◌, ℕ, zero, suc, ◌+◌, ◌*◌, ◌-◌, eqb}
use Rattle.word.specs.Search.{count}
use Rattle.rule.specs.declared.band.Band.{Band}
use Rattle.rule.specs.band.route.Band.{holds}
use Rattle.search.specs.section.route.Section.{section_at}

-- the band turns after the word x: it holds one of x and the next word, and fails the other
unfoldable pub turns : Band → ℕ → Bool
turns b x = cond (holds b x) (not (holds b (suc x))) (holds b (suc x))

-- how often the bands turn, from p on and below the top word t
unfoldable pub turns_from : (t : ℕ) → List Band → (p : ℕ) → ℕ
turns_from t [] p = zero
turns_from t (b ∷ bs) p = count (turns b) (t - p) p + turns_from t bs p

-- the ends of the sections from p on, one after another up to the top word t, at most k of them
unfoldable pub section_ends : (t : ℕ) → List Band → (k p : ℕ) → List ℕ
section_ends t bs zero p = []
section_ends t bs (suc k) p =
    let q : ℕ = (section_at t bs p).to in
    q ∷ cond (eqb q t) [] (section_ends t bs k (suc q))

-- two turns a band, and the last section
abbrev pub most_sections : ℕ → ℕ
most_sections n = 2 * n + 1
