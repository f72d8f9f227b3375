-- The end found letter by letter. A route: it is the end that a line has (proofs/line_end/Ends.antt `ends`).
use Rattle.std.specs.Prelude.{cond, List, [], ◌∷◌, ℕ, suc}
use Rattle.line.specs.declared.token.class.Class.{Class}
use Rattle.line.specs.declared.token.class.Class.TheVariants.{Blank, Comment}
use Rattle.line.specs.token.Token.{class_of, same}

-- the end after a letter of a class that ends before a place: blanks leave it as it is
unfoldable pub past : Class → (to end : ℕ) → ℕ
past c to e = cond (same c Blank) e to

-- the letters from a place on, up to a comment
unfoldable pub end_from : (end at : ℕ) → List ℕ → ℕ
end_from e at [] = e
end_from e at (b ∷ bs) = cond (same (class_of b) Comment) e (end_from (past (class_of b) (suc at) e) (suc at) bs)
