-- Search, word by word. A test says of each number whether it passes.
use Rattle.std.specs.Prelude.{ℕ, zero, suc, Bool, true, false, List, [], ◌∷◌}
use Rattle.std.specs.Prelude.{Option}
use Rattle.std.specs.Prelude.{Some, None}

-- the first of k words from p that passes
unfoldable pub first : (ℕ → Bool) → ℕ → ℕ → Option ℕ
first f zero p = None
first f (suc k) p = elim (f p) [ true ↦ Some p | false ↦ first f k (suc p) ]

-- the last word below k that passes
unfoldable pub last : (ℕ → Bool) → ℕ → Option ℕ
last f zero = None
last f (suc k) = elim (f k) [ true ↦ Some k | false ↦ last f k ]

-- how far up from p, by at most k words, one can go before a word passes
unfoldable pub climb : (ℕ → Bool) → ℕ → ℕ → ℕ
climb f zero p = p
climb f (suc k) p = elim (f (suc p)) [ true ↦ p | false ↦ climb f k (suc p) ]

-- how far down from p one can go before a word passes
unfoldable pub sink : (ℕ → Bool) → ℕ → ℕ
sink f zero = zero
sink f (suc p) = elim (f p) [ true ↦ suc p | false ↦ sink f p ]

-- how many of k words from p pass
unfoldable pub count : (ℕ → Bool) → ℕ → ℕ → ℕ
count f zero p = zero
count f (suc k) p = elim (f p) [ true ↦ suc (count f k (suc p)) | false ↦ count f k (suc p) ]

-- those of k words from p that pass, in rising order
unfoldable pub passing : (ℕ → Bool) → (k p : ℕ) → List ℕ
passing f zero p = []
passing f (suc k) p = elim (f p) [ true ↦ p ∷ passing f k (suc p) | false ↦ passing f k (suc p) ]
