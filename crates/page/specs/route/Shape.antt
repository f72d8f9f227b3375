-- How rules and marks in their places are told to be those of a page. A route and no meaning: that the test for a sheet, which
-- goes by these, passes exactly for sheets is proved where the record stands.
use Rattle.std.specs.Prelude.{Bool, ◌&&◌, List, [], ◌∷◌, ℕ, eqb, leb, drop, take}
use Rattle.rule.specs.declared.Rule.{Rule}
use Rattle.rule.specs.accept.Accept.{acceptable, every, is_no_rule}

-- n acceptable rules, and no rule after them
unfoldable pub rules_shaped : (w n : ℕ) → List Rule → Bool
rules_shaped w n rs = every (acceptable w) (take n rs) && every is_no_rule (drop n rs)

-- the numbers rise, from low on and up to high
unfoldable pub rising : (low : ℕ) → List ℕ → (high : ℕ) → Bool
rising low [] high = leb low high
rising low (m ∷ ms) high = leb low m && rising m ms high

abbrev pub is_zero : ℕ → Bool
is_zero n = eqb n 0

-- m marks that rise up to n rules, and zeros after them
unfoldable pub marks_shaped : (n m : ℕ) → List ℕ → Bool
marks_shaped n m ms = rising 0 (take m ms) n && every is_zero (drop m ms)
