-- The lemmas that the goals of `rule_at` want, whatever its tests are named. Assumes nothing.
use mathlib.Core.Path.{◌≡◌}
use Prim.Native.Nat.{ℕ, suc, ◌≤◌}
use native.Mathlib.Omega.{arith}
use lib.ListN.{get_or-eq_default}

-- what is at least k and is not k is more
pub up : (k row : ℕ) → k ≤ row → (row ≡ k → ⊥) → suc k ≤ row
up k row h d = omega arith

pub ruleset wanted = (get_or-eq_default, up)
