-- What the walk by the order knows at a word. A route: what it finds is what a search over all bands finds (proofs/Walk.antt).
use Rattle.std.specs.Prelude.{◌≡◌, true, false, cond, List, ℕ, ◌≤◌, ◌<◌, ltb}
use Rattle.rule.specs.declared.band.Band.{Band}
use Rattle.rule.specs.band.route.Band.{holds}
use Rattle.chain.specs.declared.Far.{Far}
use Rattle.chain.specs.declared.Far.TheVariants.{To, Nowhere}
use Rattle.search.specs.order.route.Order.{band_at, eve, placed_band}

-- a best so far, or number i where it reaches further, or as far with a lower number
unfoldable pub better : Far → (q i : ℕ) → Far
better Nowhere q i = To q i
better (To best rule) q i = cond (ltb best q) (To q i) (cond (ltb q best) (To best rule) (cond (ltb i rule) (To q i) (To best rule)))

-- every run of failing words around p started above 0
abbrev pub Begun : (t n : ℕ) → List Band → ℕ → Type 0
Begun t n bands p = (i : ℕ) → i < n → holds (band_at bands i) p ≡ false → eve t (band_at bands i) < p

-- the later runs of the first m bands of the order start at p or before
pub record Passed (t n : ℕ) (bands : List Band) (order : List ℕ) (m p : ℕ) : Type 0 where
  pub count : m ≤ n
  pub before : (k : ℕ) → k < m → eve t (placed_band bands order k) < p

-- and these bands hold p, so that what fails p comes after them
pub record Ready (t n : ℕ) (bands : List Band) (order : List ℕ) (m p : ℕ) : Type 0 where
  pub begun : Begun t n bands p
  pub passed : Passed t n bands order m p
  pub held : (k : ℕ) → k < m → holds (placed_band bands order k) p ≡ true
