-- A route: the number that asking why a word fails is given by the tests of the code, 17, 1, 5 and 9 in this order.
use Rattle.std.specs.Prelude.{◌≡◌, Bool, true, false, ℕ, ◌≤◌, ◌<◌}
use Rattle.word.specs.Word.{top}

-- of a record that is a sheet or not, with n rules of a width in force, a word x and room for m numbers
pub data WhySeen (sheet : Bool) (w n x m : ℕ) : ℕ → Type 0 where
  not_sheet : sheet ≡ false → WhySeen sheet w n x m 17
  blank : sheet ≡ true → w ≡ 0 → WhySeen sheet w n x m 1
  high_word : sheet ≡ true → (w ≡ 0 → ⊥) → top w < x → WhySeen sheet w n x m 5
  short_room : sheet ≡ true → (w ≡ 0 → ⊥) → x ≤ top w → m < n → WhySeen sheet w n x m 9
  own_word : sheet ≡ true → (w ≡ 0 → ⊥) → x ≤ top w → n ≤ m → WhySeen sheet w n x m 0
