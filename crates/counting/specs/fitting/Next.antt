-- The listing with no search: each word is the next that fits. That the listing is such a list, and that no other list is one, is
-- proved (proofs/fitting/Only.antt).
use Rattle.std.specs.Prelude.{List, [], ◌∷◌, ℕ, zero, suc, ◌≤◌}
use Rattle.rule.specs.declared.Rule.{Rule}
use Rattle.search.specs.verdict.Demand.{Fits}

-- x is the next fitting word from p upward: it fits, and no fitting word is left out before it
pub record Next (w : ℕ) (rs : List Rule) (p x : ℕ) : Type 0 where
  pub upward : p ≤ x
  pub fits : Fits w rs x
  pub none_left_out : (y : ℕ) → p ≤ y → Fits w rs y → x ≤ y

-- The words that a buffer with so much room gets from p upward: none where it has no room, or where no word fits any more; else
-- the next one that fits, and then those from one above it.
pub data EachNext (w : ℕ) (rs : List Rule) : (p room : ℕ) → List ℕ → Type 0 where
  no_room : {p : ℕ} → EachNext w rs p zero []
  no_more : {p room : ℕ} → ((y : ℕ) → p ≤ y → Fits w rs y → ⊥) → EachNext w rs p room []
  next : {p room x : ℕ} {xs : List ℕ} → Next w rs p x → EachNext w rs (suc x) room xs → EachNext w rs p (suc room) (x ∷ xs)
