-- Where what a line says ends: right after its last letter that is no blank and stands before its comment.
use Rattle.std.specs.Prelude.{cond, List, [], ◌∷◌, ℕ, suc, eqb}
use Rattle.line.specs.declared.token.class.Class.TheVariants.{Blank, Comment}
use Rattle.line.specs.token.Token.{class_of, same}

-- the letters before a comment
unfoldable pub uncommented : List ℕ → List ℕ
uncommented [] = []
uncommented (b ∷ bs) = cond (same (class_of b) Comment) [] (b ∷ uncommented bs)

-- the place right after the last letter that is no blank, or 0 where all are
unfoldable pub past_last : List ℕ → ℕ
past_last [] = 0
past_last (b ∷ bs) = cond (eqb (past_last bs) 0) (cond (same (class_of b) Blank) 0 1) (suc (past_last bs))

unfoldable pub end_of : List ℕ → ℕ
end_of l = past_last (uncommented l)
