-- A step of the chain over its own data, bands and fixed bits. A route, as a single band is: that for the bands and the bits
-- of rules it is the paper's step is proved (proofs/OnBands.antt).
use Rattle.std.specs.Prelude.{true, false, List, [], ◌∷◌, ℕ, suc, ◌-◌, get_or}
use Rattle.word.specs.Search.{climb, first, sink}
use Rattle.rule.specs.declared.band.Band.{Band}
use Rattle.rule.specs.band.route.Band.{holds}
use Rattle.rule.specs.declared.bits.Fixed.{Fixed}
use Rattle.rule.specs.bits.route.Fixed.{has_bits}
use Rattle.search.specs.rows.route.Bands.{blank_band}
use Rattle.chain.specs.declared.Far.{Far}
use Rattle.chain.specs.declared.Far.TheVariants.{Nowhere}
use Rattle.chain.specs.declared.Link.{Link}
use Rattle.chain.specs.Links.{before, further, link_by}

-- a best so far, or band number i where it fails p, up to the top word t, and reaches further
unfoldable pub further_band : (t p : ℕ) → Far → ℕ → Band → Far
further_band t p best i b = elim (holds b p) [ true ↦ best | false ↦ further best (climb (holds b) (t - p) p) i ]

-- the furthest reach from p among a best so far and the bands, which are numbered from i
unfoldable pub furthest_band_of : (t p : ℕ) → Far → ℕ → List Band → Far
furthest_band_of t p best i [] = best
furthest_band_of t p best i (b ∷ bs) = furthest_band_of t p (further_band t p best i b) (suc i) bs

-- the band of furthest reach from p, if any fails p
unfoldable pub furthest_band : List Band → (t p : ℕ) → Far
furthest_band bs t p = furthest_band_of t p Nowhere 0 bs

-- one less than the smallest word above p that has the bits, or the top word t
unfoldable pub gap_on : Fixed → (t p : ℕ) → ℕ
gap_on f t p = before t (first (has_bits f) (t - p) (suc p))

-- the link at p
unfoldable pub link_on : List Band → Fixed → (t p : ℕ) → Link
link_on bs f t p = link_by (λ (i : ℕ). sink (holds (get_or bs i blank_band)) p) p (gap_on f t p) (furthest_band bs t p)
