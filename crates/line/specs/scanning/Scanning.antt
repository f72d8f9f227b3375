-- A line read letter by letter, up to its first mistake.
use Rattle.std.specs.Prelude.{cond, List, [], ◌∷◌, ℕ, suc, length, Option, Some, None, is_some}
use Rattle.line.specs.declared.grammar.Place.{Place}
use Rattle.line.specs.declared.grammar.kind.Kind.{Kind}
use Rattle.line.specs.declared.grammar.kind.Kind.TheVariants.{Colon, Name, Not}
use Rattle.line.specs.grammar.Grammar.{NAME_ROW, NOT_ROW, expected, follow, is_watts, start_at}
use Rattle.line.specs.declared.token.class.Class.TheVariants.{Blank, Comment}
use Rattle.line.specs.token.Token.{begun, class_of, kind, more, same}
use Rattle.line.specs.declared.scan.Scan.{Scan}
use Rattle.line.specs.scan.Scan.{failed, instead_of, is_number, named, negated, numbered, placed, started, with_token}

-- The line goes on: after `not` the rows of rules on words are open, after a name and its colon those of all rules.
unfoldable pub followed : Scan → Kind → Place → ℕ → Scan
followed s Not p at = negated s (start_at NOT_ROW)
followed s Colon p at = placed s (start_at NAME_ROW)
followed s Name p at = named s p at
followed s k p at = cond (is_number k) (numbered s p) (placed s p)

-- an open row goes on so, or the line is wrong where the token begins
abbrev pub followed_or_failed : Option Place → Scan → Kind → ℕ → Scan
followed_or_failed (Some p) s k at = followed s k p at
followed_or_failed None s k at = failed s s.token.from (instead_of k (expected s.place))

-- The token has a kind.
unfoldable pub accepted : Scan → Kind → ℕ → Scan
accepted s k at = followed_or_failed (follow s.place k) s k at

-- the token ends before a place; blanks and comments are none, and after the first mistake nothing is read
unfoldable pub closed : Scan → ℕ → Scan
closed s at =
    cond (is_some s.mistake) s
    (cond (same s.token.class Blank) s
    (cond (same s.token.class Comment) s
    (accepted s (kind s.token (is_watts s.place)) at)))

-- a letter more, at a place: of the token's class it is one more of it, and a comment takes all; else the token ends there
unfoldable pub step : Scan → ℕ → ℕ → Scan
step s b at =
    cond (same s.token.class (class_of b)) (with_token s (more s.token b))
    (cond (same s.token.class Comment) (with_token s (more s.token b))
    (with_token (closed s at) (begun (class_of b) b at)))

-- the letters from a place on
unfoldable pub steps : Scan → ℕ → List ℕ → Scan
steps s at [] = s
steps s at (b ∷ bs) = steps (step s b at) (suc at) bs

-- the whole line
unfoldable pub scanned : List ℕ → Scan
scanned l = closed (steps started 0 l) (length l)
