-- A line as people write it, read into a statement, or into its first mistake.
use Rattle.std.specs.Prelude.{Bool, ◌&&◌, ◌||◌, cond, List, [], ◌∷◌, ℕ, ◌-◌, eqb, ltb, get_or, length, Option, Some, None}
use Rattle.std.specs.Prelude.{Option}
use Rattle.std.specs.Prelude.{Some, None}
use Rattle.line.specs.declared.grammar.Place.{Place}
use Rattle.line.specs.grammar.Grammar.{NOT_ROW, ROWS, expected, is_whole}
use Rattle.line.specs.declared.grammar.kind.Kind.{Kind}
use Rattle.line.specs.declared.grammar.kind.Kind.TheVariants.{ShorterLine, SignedWord}
use Rattle.line.specs.declared.scan.Amount.{Amount}
use Rattle.line.specs.declared.scan.Mistake.{Mistake}
use Rattle.line.specs.declared.scan.Scan.{Scan}
use Rattle.line.specs.scanning.Scanning.{scanned}
use Rattle.line.specs.declared.Line.{Line}
use Rattle.line.specs.declared.Statement.{Statement}
use Rattle.line.specs.declared.Statement.TheVariants.{
  Ask,
  AtLeast,
  AtMost,
  Back,
  Blank,
  Count,
  Forward,
  Mark,
  Open,
  Show,
  Why,
  Within,
  Wrong,
}
use Rattle.line.specs.declared.Statement.TheVariants as said
use Rattle.line.specs.line_end.End.{end_of}
use Rattle.line.specs.row_rules.Rules.{rule_of, signed_word}

-- the most bytes that a line may have
abbrev pub LIMIT : ℕ
LIMIT = 1024

abbrev pub mistake : (at : ℕ) → Kind → Mistake
mistake at e = record { at = at; expected = e }

-- The statement of each row after those of rules on words: `not` and a name stand before a rule, and are none of their own.
abbrev pub others : (first second : Amount) → List Statement
others a b =
    Blank  -- not
    ∷ AtLeast b  -- watts at least b
    ∷ AtMost b  -- watts at most b
    ∷ Within a b  -- watts within a .. b
    ∷ Blank  -- name :
    ∷ Open b.numeral.value  -- word b
    ∷ Mark
    ∷ Back
    ∷ Forward
    ∷ Ask
    ∷ Count
    ∷ said.List (record { from = 0; most = b.numeral.value })  -- list b
    ∷ said.List (record { from = a.numeral.value; most = b.numeral.value })  -- list from a b
    ∷ Why b.numeral.value  -- why b
    ∷ Show
    ∷ []

unfoldable pub other : (row : ℕ) (first second : Amount) → Statement
other row a b = get_or (others a b) (row - NOT_ROW) Blank

-- a rule with a signed number, where a word has it
unfoldable pub rule_with : (row : ℕ) (negated : Bool) (at : ℕ) → Option ℕ → Statement
rule_with row negated at (Some c) = said.Rule (rule_of row negated 0 c)
rule_with row negated at None = Wrong (mistake at SignedWord)

-- the rows from `signed x <= m` to `-m <= signed x` have a signed number
unfoldable pub rule_statement : ℕ → Scan → Statement
rule_statement w s =
    cond (ltb s.place.row 9 || eqb s.place.row 13)
    (said.Rule (rule_of s.place.row s.negated s.first.numeral.value s.second.numeral.value))
    (rule_with s.place.row s.negated s.second.at (signed_word w s.second.numeral.minus s.second.numeral.value))

unfoldable pub by_row : ℕ → Scan → Statement
by_row w s = cond (ltb s.place.row NOT_ROW) (rule_statement w s) (other s.place.row s.first s.second)

-- neither a kind nor what stands before a rule was read
unfoldable pub nothing_read : Place → Bool
nothing_read p = eqb p.read 0 && eqb p.limit ROWS

-- the first mistake, where there is one
abbrev pub wrong_or : Option Mistake → Statement → Statement
wrong_or (Some m) says = Wrong m
wrong_or None says = says

-- What a line says that was scanned to its end: its first mistake; nothing, where nothing was read; what its row says; or that more was
-- expected where it ends.
unfoldable pub finished : ℕ → Scan → ℕ → Statement
finished w s end =
    wrong_or s.mistake
    (cond (nothing_read s.place) Blank
    (cond (is_whole s.place) (by_row w s)
    (Wrong (mistake end (expected s.place)))))

unfoldable pub read : ℕ → List ℕ → Line
read w l =
    cond (ltb LIMIT (length l)) (record { statement = Wrong (mistake LIMIT ShorterLine); name = None })
    (record { statement = finished w (scanned l) (end_of l); name = (scanned l).name })
