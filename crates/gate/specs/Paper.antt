-- What the paper asks of the four rules, in its words and without a search (02, K9).
use Rattle.std.specs.Prelude.{◌≡◌, Bool, true, false, ◌&&◌, List, [], ◌∷◌, ℕ, ◌+◌, ◌≤◌, ◌<◌, Float}
use Rattle.std.specs.Float.{binary32}
use Rattle.std.specs.Float.Ieee.{fits, le}
use Rattle.word.specs.Word.{half, top}
use Rattle.rule.specs.declared.Rule.{Rule}
use Rattle.rule.specs.Meaning.{meets, rule}
use Rattle.gate.specs.declared.Four.{Four}
use Rattle.gate.specs.declared.Gate.{Gate}
use Rattle.gate.specs.declared.Gate.TheVariants.{AtLeast, AtMost, Within}

-- x is a word of the half from s "under the smallest fitting one there": neither it nor one before it fits. "Where a half has no fitting
-- word" that is the whole half.
pub record Under (fit : ℕ → Bool) (s x : ℕ) : Type 0 where
  pub low : s ≤ x
  pub high : x < s + half 32
  pub none : (y : ℕ) → s ≤ y → y ≤ x → fit y ≡ false

-- x is a word of the half from s "over the largest fitting one there": one before it fits, and neither it nor one after it does
pub record Over (fit : ℕ → Bool) (s x : ℕ) : Type 0 where
  pub some : (y : ℕ) × (s ≤ y) × (y < x) × (fit y ≡ true)
  pub high : x < s + half 32
  pub none : (y : ℕ) → x ≤ y → y < s + half 32 → fit y ≡ false

-- the rule "fails just the words" of P: "All are form 3, sense 0; one that fails no word is form 3, 0, top"
pub record FailsJust (P : ℕ → Type 0) (r : Rule) : Type 0 where
  pub form : r.form ≡ 3
  pub sense : r.sense ≡ 0
  pub c1_word : r.c1 ≤ top 32
  pub c2_word : r.c2 ≤ top 32
  pub fails : (x : ℕ) → x ≤ top 32 → P x → meets 32 r x ≡ false
  pub only : (x : ℕ) → x ≤ top 32 → meets 32 r x ≡ false → P x
  pub no_word : ((x : ℕ) → x ≤ top 32 → P x → ⊥) → r ≡ rule 3 0 0 (top 32)

-- "The first fails just the words of the lower half (below 2^31) under the smallest fitting one there, the second just those over
-- the largest fitting one there; the third and fourth do the same in the upper half."
pub record IsFour (fit : ℕ → Bool) (f : Four) : Type 0 where
  pub first : FailsJust (Under fit 0) f.first
  pub second : FailsJust (Over fit 0) f.second
  pub third : FailsJust (Under fit (half 32)) f.third
  pub fourth : FailsJust (Over fit (half 32)) f.fourth

-- "exactly four rules", in this order
pub data FourInOrder (fit : ℕ → Bool) : List Rule → Type 0 where
  in_order : (f : Four) → IsFour fit f → FourInOrder fit (f.first ∷ f.second ∷ f.third ∷ f.fourth ∷ [])

-- the limits are single-precision floats, as those of every gate that code makes are
unfoldable pub Single : Gate → Type 0
Single (AtLeast l) = fits binary32 l ≡ true
Single (AtMost h) = fits binary32 h ≡ true
Single (Within s) = (fits binary32 s.low ≡ true) × (fits binary32 s.high ≡ true)

-- "A reading meets a gate by IEEE 754 comparison", in the language's own words
unfoldable pub compares : Gate → Float → Bool
compares (AtLeast l) x = le l x
compares (AtMost h) x = le x h
compares (Within s) x = le s.low x && le x s.high
