-- Lines of a sheet as one table: the width, the line, and what it says, read off docs/VET.md by hand. Places go from 0.
use Rattle.std.specs.Prelude.{Bool, true, false, List, [], ◌∷◌, ◌++◌, ℕ, replicate, Some, None}
use Prim.Native.String.{String}
use Rattle.digits.specs.hexadecimal.Text.{bytes_of}
use Rattle.rule.specs.Meaning.{rule}
use Rattle.digits.specs.declared.numeral.Stage.TheVariants.{Digits}
use Rattle.digits.specs.numeral.Numeral.{numeral}
use Rattle.line.specs.declared.grammar.kind.Kind.{Kind}
use Rattle.line.specs.declared.grammar.kind.Kind.TheVariants as kinds
use Rattle.line.specs.declared.scan.Amount.{Amount}
use Rattle.line.specs.declared.Line.{Line}
use Rattle.line.specs.declared.Statement.{Statement}
use Rattle.line.specs.declared.Statement.TheVariants.{
  Ask,
  AtLeast,
  AtMost,
  Back,
  Blank,
  Count,
  Forward,
  Mark,
  Open,
  Rule,
  Show,
  Why,
  Within,
  Wrong,
}
use Rattle.line.specs.declared.Statement.TheVariants as said
use Rattle.line.specs.Line.{mistake}

pub record Example : Type 0 where
  pub width : ℕ
  pub line : List ℕ
  pub says : Line

-- a line without a name
abbrev plain : ℕ → List ℕ → Statement → Example
plain w l s = record { width = w; line = l; says = record { statement = s; name = None } }

-- a text, at 16 bits
abbrev example : String → Statement → Example
example t s = plain 16 (bytes_of t) s

-- one whose rule has a name, from a place and before another
abbrev called : String → (from to : ℕ) → Statement → Example
called t from to s =
    record { width = 16; line = bytes_of t; says = record { statement = s; name = Some (record { from = from; to = to }) } }

-- a line that is wrong, where and what was expected
abbrev wrong : String → (at : ℕ) → Kind → Example
wrong t at e = example t (Wrong (mistake at e))

abbrev says : (form sense c1 c2 : ℕ) → Statement
says form sense c1 c2 = Rule (rule form sense c1 c2)

-- a number of watts: where it stands, its digits as one number, and how many of them follow its point
abbrev whole : (at digits : ℕ) → Amount
whole at d = record { at = at; numeral = numeral Digits false 10 false d 0 }

abbrev fraction : (at : ℕ) (minus : Bool) (digits places : ℕ) → Amount
fraction at minus d k = record { at = at; numeral = numeral Digits minus 10 true d k }

unfoldable pub examples : List Example
examples =
    -- rules, a line for each row
    example "x <= 9" (says 3 0 0 9)
    ∷ example "x < 9" (says 2 1 9 0)
    ∷ example "x >= 9" (says 2 0 9 0)
    ∷ example "x > 9" (says 3 1 0 9)
    ∷ example "x = 9" (says 6 0 9 0)
    ∷ example "x + 5 <= 3" (says 3 0 5 3)
    ∷ example "x + 1 <= x + 2" (says 1 0 1 2)
    ∷ example "3 <= x + 5" (says 2 0 3 5)
    ∷ example "x & 12 = 4" (says 7 0 12 4)
    ∷ example "signed x <= 3" (says 4 0 3 0)
    ∷ plain 4 (bytes_of "signed x <= -3") (says 4 0 13 0)
    ∷ example "3 <= signed x" (says 5 0 3 0)
    ∷ plain 4 (bytes_of "-3 <= signed x") (says 5 0 13 0)
    ∷ example "settled since 14 for 3" (says 8 0 14 3)
    -- the ends of the signed words of 4 bits
    ∷ plain 4 (bytes_of "signed x <= 7") (says 4 0 7 0)
    ∷ plain 4 (bytes_of "-8 <= signed x") (says 5 0 8 0)
    -- `not` and a name
    ∷ example "not x = 9" (says 6 1 9 0)
    ∷ example "not x < 9" (says 2 0 9 0)
    ∷ called "viewing: x & 0x8000 = 0x8000" 0 7 (says 7 0 32768 32768)
    ∷ called "  late : not settled since 0xfff0 for 30" 2 6 (says 8 1 65520 30)
    -- watts
    ∷ example "watts at least 5.5" (AtLeast (fraction 15 false 55 1))
    ∷ example "watts at most 20" (AtMost (whole 14 20))
    ∷ example "watts within 5.5 .. 20" (Within (fraction 13 false 55 1) (whole 20 20))
    ∷ example "watts at least -0.25" (AtLeast (fraction 15 true 25 2))
    ∷ example "watts at most 16777217.000000001" (AtMost (fraction 14 false 16777217000000001 9))
    ∷ called "dim: watts at most 20" 0 3 (AtMost (whole 19 20))
    -- other statements
    ∷ example "word 16" (Open 16)
    ∷ example "mark" Mark
    ∷ example "back" Back
    ∷ example "forward" Forward
    ∷ example "ask" Ask
    ∷ example "count" Count
    ∷ example "list 9" (said.List (record { from = 0; most = 9 }))
    ∷ example "list from 3 9" (said.List (record { from = 3; most = 9 }))
    ∷ example "why 9" (Why 9)
    ∷ example "show" Show
    -- blanks, a tab, a byte 13 at the end, a comment, and none of them
    ∷ plain 16 (9 ∷ bytes_of "x  <=" ++ 9 ∷ bytes_of "9 " ++ 13 ∷ []) (says 3 0 0 9)
    ∷ example "x&12=4# x <= 9" (says 7 0 12 4)
    ∷ example "# x <= 9" Blank
    ∷ plain 16 (32 ∷ 9 ∷ 13 ∷ []) Blank
    ∷ plain 16 [] Blank
    -- numbers in other bases, and the largest
    ∷ example "x = 0x1f" (says 6 0 31 0)
    ∷ example "x = 0b101" (says 6 0 5 0)
    ∷ example "x = 0" (says 6 0 0 0)
    ∷ example "x = 18446744073709551615" (says 6 0 18446744073709551615 0)
    -- mistakes, with what was expected: first those of the table
    ∷ wrong "x + 5 < 3" 6 kinds.AtMost
    ∷ wrong "x <= 9 x" 7 kinds.End
    ∷ wrong "x <=" 4 kinds.Number
    ∷ wrong "list from 3 # words" 11 kinds.Number
    ∷ wrong "x <= 18446744073709551616" 5 kinds.Large
    ∷ plain 8 (bytes_of "signed x <= 200") (Wrong (mistake 12 kinds.SignedWord))
    ∷ wrong "not mark" 4 kinds.Rule
    ∷ wrong "?" 0 kinds.Statement
    -- and others
    ∷ wrong "x & 0x8000 < 0x8000" 11 kinds.Equals
    ∷ wrong "x <= -3" 5 kinds.Number
    ∷ wrong "x = 5.5" 4 kinds.Number
    ∷ wrong "x = 0xFF" 4 kinds.Number
    ∷ called "late x <= 3" 0 4 (Wrong (mistake 5 kinds.Colon))
    ∷ called "late: mark" 0 4 (Wrong (mistake 6 kinds.Rule))
    ∷ wrong "not" 3 kinds.Rule
    ∷ wrong "not late: x = 3" 4 kinds.Rule
    ∷ wrong "settled since 14 3" 17 kinds.For
    ∷ wrong "watts at 5.5" 9 kinds.Least
    ∷ wrong "watts within 5.5..20" 13 kinds.Amount
    ∷ wrong "watts within 5.5 20" 17 kinds.UpTo
    ∷ wrong "watts at least 0.1234567890" 15 kinds.Amount
    ∷ wrong "list from 3" 11 kinds.Number
    ∷ wrong "ask 3" 4 kinds.End
    ∷ wrong "not# x" 3 kinds.Rule
    ∷ plain 16 (bytes_of "x <= " ++ 9 ∷ 13 ∷ []) (Wrong (mistake 4 kinds.Number))
    ∷ wrong "x 18446744073709551616" 2 kinds.AtMost
    ∷ wrong "18446744073709551616 <= x + 5" 0 kinds.Large
    ∷ plain 4 (bytes_of "-9 <= signed x") (Wrong (mistake 0 kinds.SignedWord))
    ∷ plain 4 (bytes_of "8 <= signed x") (Wrong (mistake 0 kinds.SignedWord))
    ∷ plain 16 (replicate 1025 32) (Wrong (mistake 1024 kinds.ShorterLine))
    ∷ []
