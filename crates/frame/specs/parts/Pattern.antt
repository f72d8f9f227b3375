-- The pattern by which `./many` cuts, 01(?:0[1-9a-f]|1[0-9a-f]|20)|11(?:0[1-9a-f]|[1-3][0-9a-f]|40) and then a byte 10, with the lines
-- that it matches.
use mathlib.Core.List.{List, [], ◌∷◌, flat_map, map}
use Rattle.std.specs.Prelude.{ℕ}
use Prim.Native.String.{String}
use Rattle.digits.specs.hexadecimal.Text.{bytes_of}
use Rattle.frame.specs.parts.Parts.{AcceptedOpening}

-- a row for each way through it, with the bytes that may stand at each place
unfoldable pub pattern : List (List String)
pattern =
    ("0" ∷ "1" ∷ "0" ∷ "123456789abcdef" ∷ [])
    ∷ ("0" ∷ "1" ∷ "1" ∷ "0123456789abcdef" ∷ [])
    ∷ ("0" ∷ "1" ∷ "2" ∷ "0" ∷ [])
    ∷ ("1" ∷ "1" ∷ "0" ∷ "123456789abcdef" ∷ [])
    ∷ ("1" ∷ "1" ∷ "123" ∷ "0123456789abcdef" ∷ [])
    ∷ ("1" ∷ "1" ∷ "4" ∷ "0" ∷ [])
    ∷ []

-- the lines with a byte of each place
unfoldable pub matches : List String → List (List ℕ)
matches [] = [] ∷ []
matches (c ∷ cs) = flat_map (λ (b : ℕ). map (λ (l : List ℕ). b ∷ l) (matches cs)) (bytes_of c)

abbrev pub matched_lines : List (List ℕ)
matched_lines = flat_map matches pattern

-- each of these lines is an accepted opening
unfoldable pub AllOpen : List (List ℕ) → Type 0
AllOpen [] = Unit
AllOpen (l ∷ ls) = AcceptedOpening l × AllOpen ls
