-- The words of a line, one after another: letters of one class in a row are one word, as in a sheet (`line::token: Token`).
use Rattle.std.specs.Prelude.{Bool, false, not, ◌&&◌, cond, List, [], ◌∷◌, ℕ, suc, drop}
use Rattle.line.specs.declared.grammar.kind.Kind.{Kind}
use Rattle.line.specs.declared.grammar.kind.Kind.TheVariants.{End}
use Rattle.line.specs.declared.token.class.Class.TheVariants.{Blank, Comment}
use Rattle.line.specs.declared.token.Token.{Token}
use Rattle.line.specs.token.Token.{begun, class_of, kind, more, none, same}
use Rattle.line.specs.declared.piece.Piece.{Piece}

abbrev pub piece : Kind → (from to value text : ℕ) → Piece
piece k from to value text = record { kind = k; from = from; to = to; value = value; text = text }

-- a letter of another class ends a token; a comment has no end, and after blanks a token is to begin
unfoldable pub ends : Token → ℕ → Bool
ends t b = not (same t.class (class_of b)) && (not (same t.class Comment) && not (same t.class Blank))

-- a letter more, where the token does not end before it
unfoldable pub grown : Token → (b at : ℕ) → Token
grown t b at =
    cond (same t.class (class_of b)) (more t b)
    (cond (same t.class Comment) (more t b)
    (begun (class_of b) b at))

-- the end of the line
unfoldable pub end_at : ℕ → Piece
end_at at = piece End at at 0 0

-- a token that ends before a place; blanks and comments are none
unfoldable pub piece_of : Token → ℕ → Piece
piece_of t to =
    cond (same t.class Blank) (end_at to)
    (cond (same t.class Comment) (end_at to)
    (piece (kind t false) t.from to t.numeral.value t.text))

-- the letters of a line from a place on, after a token
unfoldable pub word_from : Token → (at : ℕ) → List ℕ → Piece
word_from t at [] = piece_of t at
word_from t at (b ∷ bs) = cond (ends t b) (piece_of t at) (word_from (grown t b at) (suc at) bs)

-- what stands in a line from a place on
unfoldable pub word_at : List ℕ → ℕ → Piece
word_at l at = word_from none at (drop at l)
