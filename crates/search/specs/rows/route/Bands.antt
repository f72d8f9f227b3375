-- The words that pass bands and bits, and bands as a search sees them. A route, as a single band is: that a word passes those of a list
-- of rules exactly when it fits is proved (proofs/rows/Passes.antt).
use Rattle.std.specs.Prelude.{◌≡◌, ℕ, ◌-◌, ◌≤◌, Bool, false, cond, ◌&&◌, List, map, length, take}
use Rattle.rule.specs.Meaning.{RULES}
use Rattle.rule.specs.declared.band.Band.{Band}
use Rattle.rule.specs.band.route.Band.{AllLaid, all_hold, turned_band}
use Rattle.rule.specs.declared.bits.Fixed.{Fixed}
use Rattle.rule.specs.bits.route.Fixed.{has_bits}

-- a place that no rule has taken
abbrev pub blank_band : Band
blank_band = record { from = 0; to = 0; inside = false }

-- every band holds the word x, and it has the bits
unfoldable pub passes : List Band → Fixed → ℕ → Bool
passes bs f x = all_hold bs x && has_bits f x

-- what a search asks of the rows: a band in each, of which the first n are laid on the wheel
pub record Lie (t n : ℕ) (bands : List Band) : Type 0 where
  pub places : length bands ≡ RULES
  pub count : n ≤ RULES
  pub laid : AllLaid t (take n bands)

-- a band as it stands, or on the wheel of words turned round
unfoldable pub seen : (turned : Bool) → ℕ → Band → Band
seen turned t b = cond turned (turned_band t b) b

-- the word that a search so comes to, as it stands
unfoldable pub faced : (turned : Bool) → ℕ → ℕ → ℕ
faced turned t x = cond turned (t - x) x

-- the bands so
unfoldable pub all_seen : (turned : Bool) → ℕ → List Band → List Band
all_seen turned t bs = cond turned (map (turned_band t) bs) bs
