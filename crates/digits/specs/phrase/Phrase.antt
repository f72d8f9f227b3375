-- Texts and numbers, one after the other, and bytes that stand in a lent buffer.
use Rattle.std.specs.Prelude.{cond, List, ◌++◌, ◌≡◌, ℕ, ◌+◌, ltb, length}
use Prim.Native.String.{String}
use Rattle.word.specs.Word.{half, minus}
use Rattle.digits.specs.hexadecimal.Hex.{Written}
use Rattle.digits.specs.hexadecimal.Text.{bytes_of}
use Rattle.digits.specs.numeral.Digits.{digits_in}

abbrev pub decimal : ℕ → List ℕ
decimal n = digits_in 10 n

-- a text and a number, once and twice
abbrev pub one : String → ℕ → List ℕ
one lead n = bytes_of lead ++ decimal n

abbrev pub two : String → ℕ → String → ℕ → List ℕ
two lead n middle m = bytes_of lead ++ (decimal n ++ one middle m)

-- a word by its signed reading: "a where a < half, else a - 2^w"
unfoldable pub signedly : (w a : ℕ) → List ℕ
signedly w a = cond (ltb a (half w)) (decimal a) (one "-" (minus w 0 a))

-- bytes stand in a lent buffer from a place on, every other is as it was, and the place after them is given
abbrev pub Put : (b : List ℕ) (at : ℕ) (bytes b' : List ℕ) (end : ℕ) → Type 0
Put b at bytes b' end = Written b at bytes b' × (end ≡ at + length bytes)
