-- Demand 2, as it is asked: what the verdict and its words say of the words that fit.
use Rattle.std.specs.Prelude.{◌≡◌, true, ◌↔◌, List, ℕ, ◌≤◌, ◌<◌}
use Rattle.word.specs.Word.{top}
use Rattle.rule.specs.declared.Rule.{Rule}
use Rattle.rule.specs.Meaning.{fits}
use Rattle.search.specs.declared.verdict.Kept.{Kept}

-- x is a word that fits
pub record Fits (w : ℕ) (rs : List Rule) (x : ℕ) : Type 0 where
  pub word : x ≤ top w
  pub meets : fits w rs x ≡ true

-- "it says none, one or many by machine arithmetic, with the smallest and largest fitting word"
pub record Right (w : ℕ) (rs : List Rule) (k : Kept) : Type 0 where
  -- none, exactly when no word fits
  pub none : k.verdict ≡ 0 ↔ ((x : ℕ) → Fits w rs x → ⊥)
  -- one, exactly when one word fits
  pub one : k.verdict ≡ 1 ↔ ((x : ℕ) × Fits w rs x × ((y : ℕ) → Fits w rs y → y ≡ x))
  -- many, exactly when two or more do
  pub many : k.verdict ≡ 2 ↔ ((x : ℕ) × (y : ℕ) × (x < y) × Fits w rs x × Fits w rs y)
  -- for none both words are 0
  pub no_words : k.verdict ≡ 0 → (k.smallest ≡ 0) × (k.largest ≡ 0)
  -- where any word fits, the two are the smallest and the largest that do
  pub ends : (x : ℕ) → Fits w rs x → Fits w rs k.smallest × Fits w rs k.largest × (k.smallest ≤ x) × (x ≤ k.largest)
