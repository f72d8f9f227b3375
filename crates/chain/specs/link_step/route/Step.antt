-- A link by the furthest reach that was found. A route: where that is the furthest of all, the link is the chain's (`chain::linking: Found`).
use Rattle.std.specs.Prelude.{◌≡◌, false, List, ℕ, ◌<◌, get_or}
use Rattle.word.specs.Search.{sink}
use Rattle.rule.specs.Meaning.{RULES}
use Rattle.rule.specs.declared.band.Band.{Band}
use Rattle.rule.specs.band.route.Band.{Laid, holds}
use Rattle.rule.specs.declared.bits.Fixed.{Fixed}
use Rattle.search.specs.rows.route.Bands.{blank_band}
use Rattle.chain.specs.declared.Far.{Far}
use Rattle.chain.specs.declared.Far.TheVariants.{To, Nowhere}
use Rattle.chain.specs.declared.Link.{Link}
use Rattle.chain.specs.Links.{link_by}
use Rattle.chain.specs.route.OnBands.{gap_on}

-- the band that was found lies in the rows, and fails p
abbrev pub Reached : (t p : ℕ) → List Band → Far → Type 0
Reached t p bs (To q i) = (i < RULES) × Laid t (get_or bs i blank_band) × (holds (get_or bs i blank_band) p ≡ false)
Reached t p bs Nowhere = Unit {0}

-- the link at p by what was found
unfoldable pub link_to : List Band → Fixed → (t p : ℕ) → Far → Link
link_to bs f t p far = link_by (λ (i : ℕ). sink (holds (get_or bs i blank_band)) p) p (gap_on f t p) far
