-- What the verdict and its words say beside how many words fit, and which.
use Rattle.std.specs.Prelude.{◌≡◌, ◌↔◌, List, ℕ, ◌-◌, ◌≤◌, ◌<◌, get_or}
use Rattle.search.specs.declared.verdict.Kept.{Kept}

-- "none" is 0, "one" is 1, else more; the first of all fitting words is the smallest, and the last of them the largest
pub record Agrees (k : Kept) (n : ℕ) (words : List ℕ) : Type 0 where
  pub none : k.verdict ≡ 0 ↔ n ≡ 0
  pub one : k.verdict ≡ 1 ↔ n ≡ 1
  pub many : k.verdict ≡ 2 ↔ 2 ≤ n
  pub smallest : 0 < n → get_or words 0 0 ≡ k.smallest
  pub largest : 0 < n → get_or words (n - 1) 0 ≡ k.largest
