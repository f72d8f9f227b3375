-- A text as the bytes of its characters.
use Rattle.std.specs.Prelude.{List, [], ◌∷◌, ℕ}
use Prim.Native.Char.{code}
use Prim.Native.String as text

unfoldable pub bytes_of : text.String → List ℕ
bytes_of text.[] = []
bytes_of (text.◌∷◌ c s) = code c ∷ bytes_of s
