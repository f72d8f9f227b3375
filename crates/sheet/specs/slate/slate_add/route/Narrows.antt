-- One rule more, looked at first where the words that fit before begin and end. A route: that nothing moves where it passes there is proved
-- (`search::verdict: Unmoved`).
use Rattle.std.specs.Prelude.{◌≡◌, Bool, true, not, ◌&&◌, List, ℕ, eqb, take}
use Rattle.word.specs.Word.{IsWidth, top}
use Rattle.rule.specs.declared.band.Band.{Band}
use Rattle.rule.specs.band.route.Band.{holds}
use Rattle.rule.specs.declared.bits.Fixed.{Fixed}
use Rattle.rule.specs.bits.route.Fixed.{Tidy, Within, has_bits}
use Rattle.search.specs.rows.route.Bands.{Lie}
use Rattle.search.specs.declared.verdict.Kept.{Kept}
use Rattle.search.specs.verdict.route.OnBands.{Bounds, kept_by}

-- some word fitted, and the band holds the smallest and the largest, and they have the bits
unfoldable pub stays_so : Kept → Band → Fixed → Bool
stays_so k b f =
    not (eqb k.verdict 0) && (holds b k.smallest && (holds b k.largest && (has_bits f k.smallest && has_bits f k.largest)))

-- the first n bands may be swept, what was kept before bounds what they keep and, where the last one stays so, is it
pub record Narrows (w n : ℕ) (bands : List Band) (band : Band) (fixed : Fixed) (before : Kept) : Type 0 where
  pub width : IsWidth w
  pub lie : Lie (top w) n bands
  pub tidy : Tidy fixed
  pub within : Within w fixed
  pub bounds : Bounds w (take n bands) fixed before
  pub unmoved : stays_so before band fixed ≡ true → before ≡ kept_by w (take n bands) fixed
