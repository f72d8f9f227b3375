-- What a word does at bands that it fails. A route, as a band is.
use Rattle.std.specs.Prelude.{Bool, not, cond, List, [], ◌∷◌, ℕ}
use Rattle.rule.specs.declared.band.Band.{Band}
use Rattle.rule.specs.band.route.Band.{all_hold, holds}
use Rattle.search.specs.rows.route.Bands.{blank_band}

-- the band fails the word x
unfoldable pub fails : Band → ℕ → Bool
fails b x = not (holds b x)

-- one of the bands fails the word x
unfoldable pub some_fails : List Band → ℕ → Bool
some_fails bs x = not (all_hold bs x)

-- the first of the bands that fails the word x
unfoldable pub first_failing : List Band → ℕ → Band
first_failing [] x = blank_band
first_failing (b ∷ bs) x = cond (holds b x) (first_failing bs x) b
