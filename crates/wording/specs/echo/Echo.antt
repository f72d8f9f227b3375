-- A line that says just a rule, and the name that may stand before it.
use Rattle.std.specs.Prelude.{false, List, ◌≡◌, ℕ, length, Option, Some, None}
use Rattle.rule.specs.declared.Rule.{Rule}
use Rattle.digits.specs.declared.numeral.Numeral.{Numeral}
use Rattle.line.specs.declared.grammar.kind.Kind.TheVariants as kinds
use Rattle.line.specs.declared.token.class.Class.TheVariants.{Word}
use Rattle.line.specs.token.Token.{kind, token}
use Rattle.line.specs.declared.scan.Name.{Name}
use Rattle.line.specs.scan.Scan.{started, with_token}
use Rattle.line.specs.scanning.Scanning.{steps}
use Rattle.line.specs.declared.Line.{Line}
use Rattle.line.specs.declared.Statement.TheVariants as said

abbrev pub says : Option Name → Rule → Line
says name r = record { statement = said.Rule r; name = name }

abbrev pub unnamed : Option Name
unnamed = None

-- the name that the letters at the start of a line are
abbrev pub named : List ℕ → Option Name
named a = Some (record { from = 0; to = length a })

-- what is read as a name: the letters of one word, which is neither a number nor a word of the grammar
pub record IsName (a : List ℕ) : Type 0 where
  pub text : ℕ
  pub numeral : Numeral
  pub word : steps started 0 a ≡ with_token started (token Word 0 text numeral)
  pub name : kind (token Word 0 text numeral) false ≡ kinds.Name
