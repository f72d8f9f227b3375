-- A route: the number that a listing is given by the tests of the code, 17, 1 and 5 in this order.
use Rattle.std.specs.Prelude.{◌≡◌, ℕ, ◌≤◌, ◌<◌}
use Rattle.word.specs.Word.{top}

-- n, where it comes before the table; else 5 for a start above the top word, and 0 for any other
pub data StartSeen (n w start : ℕ) : ℕ → Type 0 where
  before_table : (n ≡ 0 → ⊥) → StartSeen n w start n
  high_start : n ≡ 0 → top w < start → StartSeen n w start 5
  own_start : n ≡ 0 → start ≤ top w → StartSeen n w start 0
