-- Numbers in hexadecimal, "lowercase digits" (01, "Lines of hexadecimal").
use Rattle.std.specs.Prelude.{◌≡◌, Bool, true, ◌&&◌, ◌||◌, cond, List, [], ◌∷◌, ◌++◌, ℕ, zero, suc, ◌+◌, ◌-◌, ◌*◌, ◌/◌, ◌%◌, leb, ltb}
use Rattle.std.proofs.lemmas.List.Edits.{sets}

-- the most digits that are read at once: a number of 64 bits has as many
abbrev pub MOST : ℕ
MOST = 16

-- the code of the digit for a number below 16: `0` to `9` have 48 to 57, `a` to `f` have 97 to 102
unfoldable pub glyph : ℕ → ℕ
glyph d = cond (ltb d 10) (48 + d) (87 + d)

-- the last k digits of x, the most significant first
unfoldable pub hex : ℕ → ℕ → List ℕ
hex zero x = []
hex (suc k) x = hex k (x / 16) ++ glyph (x % 16) ∷ []

abbrev pub is_numeral : ℕ → Bool
is_numeral b = leb 48 b && leb b 57

abbrev pub is_letter : ℕ → Bool
is_letter b = leb 97 b && leb b 102

unfoldable pub is_digit : ℕ → Bool
is_digit b = is_numeral b || is_letter b

unfoldable pub all_digits : List ℕ → Bool
all_digits [] = true
all_digits (b ∷ bs) = is_digit b && all_digits bs

-- what a digit's code stands for; 0 for a code that is no digit's
unfoldable pub value : ℕ → ℕ
value b = cond (is_numeral b) (b - 48) (cond (is_letter b) (b - 87) 0)

-- the number that digits write, after those that write n
unfoldable pub number_from : ℕ → List ℕ → ℕ
number_from n [] = n
number_from n (b ∷ bs) = number_from (16 * n + value b) bs

unfoldable pub number : List ℕ → ℕ
number bs = number_from 0 bs

-- bytes stand in a lent buffer, b before, from a place on, and every other byte is as it was
pub record Written (b : List ℕ) (at : ℕ) (bytes b' : List ℕ) : Type 0 where
  pub stands : b' ≡ sets b at bytes
