-- A number in a base, in just as many digits as it has, the most significant first.
use Rattle.std.specs.Prelude.{cond, List, [], ◌∷◌, ◌++◌, ℕ, zero, suc, ◌/◌, ◌%◌, ltb}
use Rattle.digits.specs.hexadecimal.Hex.{glyph}

-- at most k digits of x
unfoldable pub digits : (base k x : ℕ) → List ℕ
digits base zero x = []
digits base (suc k) x = cond (ltb x base) (glyph x ∷ []) (digits base k (x / base) ++ glyph (x % base) ∷ [])

-- all of them: there are no more than x and one
unfoldable pub digits_in : (base x : ℕ) → List ℕ
digits_in base x = digits base (suc x) x
