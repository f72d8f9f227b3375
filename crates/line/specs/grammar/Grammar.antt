-- The grammar of a line: the rows of docs/VET.md, each a list of kinds, and how far the kinds of a line follow them.
use Rattle.std.specs.Prelude.{Bool, true, not, ◌&&◌, ◌||◌, cond, List, [], ◌∷◌, map, ℕ, zero, suc, ◌+◌, eqb, leb, ltb, get_or, take, Option, None, find, option_map, position, unwrap_or}
use Rattle.line.specs.declared.grammar.Place.{Place}
use Rattle.line.specs.declared.grammar.kind.Kind.{Kind}
use Rattle.line.specs.declared.grammar.kind.Kind.TheVariants.{
  Above,
  Amount,
  And,
  Ask,
  At,
  AtLeast,
  AtMost,
  Back,
  Below,
  Colon,
  Count,
  End,
  Equals,
  For,
  Forward,
  From,
  Least,
  Mark,
  Most,
  Name,
  Negative,
  Not,
  Number,
  Plus,
  Rule,
  Settled,
  Show,
  Signed,
  Since,
  Statement,
  UpTo,
  Watts,
  Why,
  Within,
  Word,
  X,
}
use Rattle.line.specs.declared.grammar.kind.Kind.TheVariants as kinds
use Rattle.line.specs.grammar.Kinds.{letters_of, packs, same, words}

-- the rows, with a line of each: rules, what stands before a rule, and the other statements
abbrev pub grammar : List (List Kind)
grammar =
    (X ∷ AtMost ∷ Number ∷ [])  -- x <= 9
    ∷ (X ∷ Below ∷ Number ∷ [])  -- x < 9
    ∷ (X ∷ AtLeast ∷ Number ∷ [])  -- x >= 9
    ∷ (X ∷ Above ∷ Number ∷ [])  -- x > 9
    ∷ (X ∷ Equals ∷ Number ∷ [])  -- x = 9
    ∷ (X ∷ Plus ∷ Number ∷ AtMost ∷ Number ∷ [])  -- x + 5 <= 3
    ∷ (X ∷ Plus ∷ Number ∷ AtMost ∷ X ∷ Plus ∷ Number ∷ [])  -- x + 1 <= x + 2
    ∷ (Number ∷ AtMost ∷ X ∷ Plus ∷ Number ∷ [])  -- 3 <= x + 5
    ∷ (X ∷ And ∷ Number ∷ Equals ∷ Number ∷ [])  -- x & 12 = 4
    ∷ (Signed ∷ X ∷ AtMost ∷ Number ∷ [])  -- signed x <= 3
    ∷ (Signed ∷ X ∷ AtMost ∷ Negative ∷ [])  -- signed x <= -3
    ∷ (Number ∷ AtMost ∷ Signed ∷ X ∷ [])  -- 3 <= signed x
    ∷ (Negative ∷ AtMost ∷ Signed ∷ X ∷ [])  -- -3 <= signed x
    ∷ (Settled ∷ Since ∷ Number ∷ For ∷ Number ∷ [])  -- settled since 14 for 3
    ∷ (Not ∷ [])  -- not
    ∷ (Watts ∷ At ∷ Least ∷ Amount ∷ [])  -- watts at least 5.5
    ∷ (Watts ∷ At ∷ Most ∷ Amount ∷ [])  -- watts at most 20
    ∷ (Watts ∷ Within ∷ Amount ∷ UpTo ∷ Amount ∷ [])  -- watts within 5.5 .. 20
    ∷ (Name ∷ Colon ∷ [])  -- name :
    ∷ (Word ∷ Number ∷ [])  -- word 16
    ∷ (Mark ∷ [])  -- mark
    ∷ (Back ∷ [])  -- back
    ∷ (Forward ∷ [])  -- forward
    ∷ (Ask ∷ [])  -- ask
    ∷ (Count ∷ [])  -- count
    ∷ (kinds.List ∷ Number ∷ [])  -- list 9
    ∷ (kinds.List ∷ From ∷ Number ∷ Number ∷ [])  -- list from 3 9
    ∷ (Why ∷ Number ∷ [])  -- why 9
    ∷ (Show ∷ [])  -- show
    ∷ []

-- how many kinds a row has room for
abbrev pub KINDS : ℕ
KINDS = 7

-- so many kinds, with the end of the line after the last
abbrev pub padded : ℕ → List Kind → List Kind
padded zero ks = []
padded (suc m) [] = End ∷ padded m []
padded (suc m) (k ∷ ks) = k ∷ padded m ks

abbrev pub rows : List (List Kind)
rows = map (padded KINDS) grammar

-- how many rows there are, and the rows of `not` and of a name
abbrev pub ROWS : ℕ
ROWS = 29

abbrev pub NOT_ROW : ℕ
NOT_ROW = 14

abbrev pub NAME_ROW : ℕ
NAME_ROW = 18

abbrev pub place : (row read limit : ℕ) → Place
place row read limit = record { row = row; read = read; limit = limit }

-- nothing is read, and so many rows are open
abbrev pub start_at : ℕ → Place
start_at limit = place 0 0 limit

unfoldable pub row_at : ℕ → List Kind
row_at i = get_or rows i (padded KINDS [])

-- two rows have the same first kinds
unfoldable pub agree : (a b : List Kind) → ℕ → Bool
agree a b zero = true
agree a b (suc n) = same (get_or a n End) (get_or b n End) && agree a b n

-- a row begins with the first n kinds of another, and goes on with a kind
unfoldable pub goes_on : (read : List Kind) (n : ℕ) → Kind → List Kind → Bool
goes_on read n k row = same (get_or row n End) k && agree read row n

-- A kind more: the first open row that begins with the kinds read and this one, where there is one. Seven kinds are the most.
unfoldable pub follow : Place → Kind → Option Place
follow p k =
    cond (leb KINDS p.read || ltb ROWS p.limit) None
    (option_map (λ row. place row (p.read + 1) p.limit) (position (goes_on (row_at p.row) p.read k) (take p.limit rows)))

-- What was expected where a line stands: what the first row that begins with the kinds read has next; before any kind a statement, or a
-- rule where only rules are open.
unfoldable pub expected : Place → Kind
expected p = cond (eqb p.read 0) (cond (eqb p.limit ROWS) Statement Rule) (get_or (row_at p.row) p.read End)

-- whether the line is one on watts
unfoldable pub is_watts : Place → Bool
is_watts p = not (eqb p.read 0) && same (get_or (row_at p.row) 0 End) Watts

-- whether the row is read to its end
unfoldable pub is_whole : Place → Bool
is_whole p = same (get_or (row_at p.row) p.read End) End

-- the kind of a word or a sign whose letters are packed, or of what is none of the grammar's
unfoldable pub kind_of : ℕ → Kind
kind_of text = unwrap_or (find (λ k. eqb (packs 0 (letters_of k)) text) words) Name
