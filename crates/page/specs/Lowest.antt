-- "else, where several apply, the lowest number is given", said of the rows of a table (01, "When the desk says no").
use Rattle.std.specs.Prelude.{◌≡◌, true, cond, List, [], ◌∷◌, ◌⊎◌, ℕ, ◌*◌, ◌≤◌, eqb}
use Rattle.page.specs.Calls.{Ground}

-- the order of the numbers: the lowest first, but 11 is "checked right after 1" (K7), and 13 and 14 come before 6: "In the order 17, 1,
-- 13, 14, 6" (K9)
unfoldable pub place : ℕ → ℕ
place n = cond (eqb n 11) 5 (cond (eqb n 13) 21 (cond (eqb n 14) 22 (4 * n)))

-- a row with the number n applies
unfoldable pub Applies : ℕ → List Ground → Type 0
Applies n [] = ⊥
Applies n (g ∷ gs) = ((g.number ≡ n) × (g.applies ≡ true)) ⊎ Applies n gs

-- of the numbers that apply k is the first in that order, and 0 where none does
pub record Lowest (gs : List Ground) (k : ℕ) : Type 0 where
  pub applies : (k ≡ 0 → ⊥) → Applies k gs
  pub none : k ≡ 0 → (n : ℕ) → Applies n gs → ⊥
  pub lowest : (n : ℕ) → Applies n gs → place k ≤ place n
