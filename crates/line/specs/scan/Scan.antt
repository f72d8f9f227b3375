-- What is read of a line so far, what a token adds to it, and what is said to be expected where one is wrong.
use Rattle.std.specs.Prelude.{Bool, true, false, cond, ℕ, Option, Some, None}
use Rattle.digits.specs.numeral.Numeral as numeral
use Rattle.line.specs.declared.grammar.Place.{Place}
use Rattle.line.specs.declared.grammar.kind.Kind.{Kind}
use Rattle.line.specs.declared.grammar.kind.Kind.TheVariants.{Amount, Fraction, Large, Negative, Number, Rule, Statement}
use Rattle.line.specs.grammar.Grammar.{ROWS, start_at}
use Rattle.line.specs.declared.token.Token.{Token}
use Rattle.line.specs.token.Token.{none}
use Rattle.line.specs.declared.scan.Amount as amounts
use Rattle.line.specs.declared.scan.Mistake.{Mistake}
use Rattle.line.specs.declared.scan.Name.{Name}
use Rattle.line.specs.declared.scan.Scan.{Scan}

abbrev pub scan : Token → Place → (negated : Bool) → Option Name → (first second : amounts.Amount) → Option Mistake → Scan
scan t p n m a b e = record { token = t; place = p; negated = n; name = m; first = a; second = b; mistake = e }

abbrev pub amount : ℕ → amounts.Amount
amount at = record { at = at; numeral = numeral.start }

-- nothing is read, and every row is open
unfoldable pub started : Scan
started = scan none (start_at ROWS) false None (amount 0) (amount 0) None

unfoldable pub with_token : Scan → Token → Scan
with_token s t = scan t s.place s.negated s.name s.first s.second s.mistake

-- the first mistake: where, and what was expected
unfoldable pub failed : Scan → (at : ℕ) → Kind → Scan
failed s at e = scan s.token s.place s.negated s.name s.first s.second (Some (record { at = at; expected = e }))

unfoldable pub placed : Scan → Place → Scan
placed s p = scan s.token p s.negated s.name s.first s.second s.mistake

unfoldable pub negated : Scan → Place → Scan
negated s p = scan s.token p true s.name s.first s.second s.mistake

-- the token is a name
unfoldable pub named : Scan → Place → ℕ → Scan
named s p at = scan s.token p s.negated (Some (record { from = s.token.from; to = at })) s.first s.second s.mistake

-- the token is a number: it is the second now, and the second the first
unfoldable pub numbered : Scan → Place → Scan
numbered s p = scan s.token p s.negated s.name s.second (record { at = s.token.from; numeral = s.token.numeral }) s.mistake

unfoldable pub is_number : Kind → Bool
is_number Number = true
is_number Negative = true
is_number Amount = true
is_number Fraction = true
is_number k = false

-- a number may stand where this is expected: it is one, or a statement or a rule, which a number may begin
unfoldable pub takes_number : Kind → Bool
takes_number Statement = true
takes_number Rule = true
takes_number k = is_number k

-- what is said to be expected where a kind stands: of a number past 64 bits, where a number may stand, one within them
unfoldable pub instead_of : (kind expected : Kind) → Kind
instead_of Large e = cond (takes_number e) Large e
instead_of k e = e
