-- When one more digit still fits 64 bits: the code divides where the definition multiplies. Assumes nothing.
use Prim.Native.Nat.{ℕ, ◌+◌, ◌-◌, ◌*◌, ◌/◌, ◌≤◌, ◌<◌}
use native.Mathlib.Decide.{dec_le}
use native.Mathlib.Nat.{le-div_iff_mul-le}
use native.Mathlib.Omega.{arith}

module _ (b v d m : ℕ) (some : d < b) (large : d ≤ m) where
  pub fits : v ≤ (m - d) / b → b * v + d ≤ m
  fits h = let k = (le-div_iff_mul-le {k = b} {x = v} {y = m - d} (omega arith)).0 h in omega arith

  pub over : (m - d) / b < v → m < b * v + d
  over h = go (dec_le (b * v + d) m)
    where
      go : Dec (b * v + d ≤ m) → m < b * v + d
      go (yes k) = let q = (le-div_iff_mul-le {k = b} {x = v} {y = m - d} (omega arith)).1 (omega arith) in absurd (omega arith)
      go (no k) = omega arith
