-- Where the lines of an input end.
use Rattle.std.specs.Prelude.{cond, List, [], ◌∷◌, ℕ, suc, eqb, length, take}
use Rattle.frame.specs.fields.Answers.{NEWLINE}

-- the bytes before the first byte 10
unfoldable pub line_of : List ℕ → List ℕ
line_of [] = []
line_of (b ∷ bs) = cond (eqb b NEWLINE) [] (b ∷ line_of bs)

-- those bytes, and the byte 10 where there is one
unfoldable pub with_end : List ℕ → List ℕ
with_end bs = take (suc (length (line_of bs))) bs
