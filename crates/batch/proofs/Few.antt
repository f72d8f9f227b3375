-- How many rules are read: no more than there are, and no more than an array has. Assumes nothing.
use Prim.Native.Nat.{ℕ, ◌+◌, ◌≤◌, ◌<◌}
use native.Mathlib.Decide.{dec_lt}
use native.Mathlib.Omega.{arith}
use borrow.Author.Tests.{le-ltb, lt-ltb}
use Rattle.rule.specs.Meaning.{RULES}
use Rattle.batch.specs.adds.route.Few.{few}

module _ (n : ℕ) where
  pub few_low : few n ≤ n
  few_low = go (dec_lt (RULES + 1) n)
    where
      go : Dec (RULES + 1 < n) → few n ≤ n
      go (yes l) = rw (lt-ltb (RULES + 1) n l) (omega arith)
      go (no l) = rw (le-ltb (RULES + 1) n (omega arith)) (omega arith)

  pub few_high : few n ≤ RULES + 1
  few_high = go (dec_lt (RULES + 1) n)
    where
      go : Dec (RULES + 1 < n) → few n ≤ RULES + 1
      go (yes l) = rw (lt-ltb (RULES + 1) n l) (omega arith)
      go (no l) = rw (le-ltb (RULES + 1) n (omega arith)) (omega arith)
