-- What is kept of bands and bits. A route: that it is what is kept of the rules that they are laid of is proved (proofs/verdict/Rules.antt).
use Rattle.std.specs.Prelude.{◌≡◌, false, List, ℕ, suc, ◌≤◌, ◌<◌}
use Rattle.word.specs.Word.{top}
use Rattle.word.specs.Search.{first, last}
use Rattle.rule.specs.declared.band.Band.{Band}
use Rattle.rule.specs.declared.bits.Fixed.{Fixed}
use Rattle.search.specs.rows.route.Bands.{passes}
use Rattle.search.specs.declared.verdict.Kept.{Kept}
use Rattle.search.specs.verdict.Kept.{verdict_of}

-- read off the first and the last of all words that pass
unfoldable pub kept_by : ℕ → List Band → Fixed → Kept
kept_by w bs f = verdict_of (first (passes bs f) (suc (top w)) 0) (last (passes bs f) (suc (top w)))

-- no word below low passes, and none above high: where a search may start
pub record Ends (w : ℕ) (bs : List Band) (f : Fixed) (low high : ℕ) : Type 0 where
  pub low_word : low ≤ top w
  pub high_word : high ≤ top w
  pub none_below : (x : ℕ) → x < low → passes bs f x ≡ false
  pub none_above : (x : ℕ) → high < x → x ≤ top w → passes bs f x ≡ false

-- what was kept before bounds what is kept now: more rules never lower the smallest word nor raise the largest
pub record Bounds (w : ℕ) (bs : List Band) (f : Fixed) (k : Kept) : Type 0 where
  pub none : k.verdict ≡ 0 → (x : ℕ) → x ≤ top w → passes bs f x ≡ false
  pub ends : (k.verdict ≡ 0 → ⊥) → Ends w bs f k.smallest k.largest
