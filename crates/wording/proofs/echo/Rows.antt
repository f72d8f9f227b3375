-- Each row of a form, followed along the grammar from the start of a line or after a name, is the rule that was written, and after `not` that
-- rule turned: by computing, on numbers that are variables. Assumes nothing.
use mathlib.Core.Path.{◌≡◌, refl}
use mathlib.Core.Bool.{Bool, true, false, cond}
use mathlib.Core.List.{List, [], ◌∷◌}
use Prim.Native.Nat.{ℕ}
use Rattle.std.specs.Prelude.{Option, None}
use Rattle.std.specs.Prelude.{Some}
use Rattle.rule.specs.declared.Rule.{Rule}
use Rattle.rule.specs.Meaning.{rule}
use Rattle.line.specs.grammar.Grammar.{NAME_ROW, ROWS, agree, follow, goes_on, is_watts, is_whole, row_at, start_at}
use Rattle.line.specs.declared.grammar.kind.Kind.TheVariants.{Above, And, AtLeast, AtMost, Below, Equals, For, Not, Plus, Settled, Signed, Since, X}
use Rattle.line.specs.declared.token.Token.{Token}
use Rattle.line.specs.declared.scan.Amount.{Amount}
use Rattle.line.specs.declared.scan.Name.{Name}
use Rattle.line.specs.declared.scan.Scan.{Scan}
use Rattle.line.specs.scan.Scan.{is_number, negated, numbered, placed, scan, with_token}
use Rattle.line.specs.scanning.Scanning.{accepted}
use Rattle.line.specs.scanning.Scanning as scanning
use Rattle.line.specs.declared.Line.{Line}
use Rattle.line.specs.Line.{by_row, finished, nothing_read, rule_statement, rule_with}
use Rattle.line.specs.row_rules.Rules.{rule_at, rule_of, signed_word}
use Rattle.wording.specs.echo.Echo.{says}
use Rattle.wording.proofs.echo.Pieces.{Piece, below, followed, number, the}

-- where a rule begins in a line: what a scan holds there that no rule depends on, the place, the line's end, and where what it says ends
pub record Opening : Type 0 where
  pub token : Token
  pub name : Option Name
  pub first : Amount
  pub second : Amount
  pub at : ℕ
  pub end : ℕ
  pub last : ℕ

-- nothing is read, or a name and its colon
abbrev pub opened : (after : Bool) → Opening → Scan
opened after z = scan z.token (start_at (cond after NAME_ROW ROWS)) false z.name z.first z.second None

abbrev pub line_of : ℕ → Scan → ℕ → Line
line_of w s end = record { statement = finished w s end; name = s.name }

-- the pieces say just a rule
abbrev pub Say : Bool → Opening → ℕ → List Piece → Rule → Type 0
Say after z w ps r = line_of w (followed (opened after z) z.at ps z.end) z.last ≡ says z.name r

-- in either sense
abbrev pub Both : Bool → Opening → ℕ → List Piece → (form c1 c2 : ℕ) → Type 0
Both after z w ps form c1 c2 = Say after z w ps (rule form 0 c1 c2) × Say after z w (the Not ∷ ps) (rule form 1 c1 c2)

-- the rows with two numbers, or one
pub rows : (after : Bool) (z : Opening) (w n m : ℕ)
    → Both after z w (the X ∷ the Plus ∷ number n ∷ the AtMost ∷ the X ∷ the Plus ∷ number m ∷ []) 1 n m
    × Both after z w (number n ∷ the AtMost ∷ the X ∷ the Plus ∷ number m ∷ []) 2 n m
    × Both after z w (the X ∷ the Plus ∷ number n ∷ the AtMost ∷ number m ∷ []) 3 n m
    × Both after z w (the X ∷ the Equals ∷ number n ∷ []) 6 n 0
    × Both after z w (the X ∷ the And ∷ number n ∷ the Equals ∷ number m ∷ []) 7 n m
    × Both after z w (the Settled ∷ the Since ∷ number n ∷ the For ∷ number m ∷ []) 8 n m
unfolding followed scanning.followed accepted is_number negated numbered placed with_token agree goes_on follow is_watts is_whole row_at by_row finished nothing_read rule_statement rule_at rule_of
rows true z w n m = ((refl, refl), (refl, refl), (refl, refl), (refl, refl), (refl, refl), (refl, refl))
rows false z w n m = ((refl, refl), (refl, refl), (refl, refl), (refl, refl), (refl, refl), (refl, refl))

-- where nothing is added to x there is a sign for each sense
pub signs : (after : Bool) (z : Opening) (w m : ℕ)
    → Say after z w (the X ∷ the AtLeast ∷ number m ∷ []) (rule 2 0 m 0)
    × Say after z w (the X ∷ the Below ∷ number m ∷ []) (rule 2 1 m 0)
    × Say after z w (the X ∷ the AtMost ∷ number m ∷ []) (rule 3 0 0 m)
    × Say after z w (the X ∷ the Above ∷ number m ∷ []) (rule 3 1 0 m)
unfolding followed scanning.followed accepted is_number negated numbered placed with_token agree goes_on follow is_watts is_whole row_at by_row finished nothing_read rule_statement rule_at rule_of
signs true z w m = (refl, refl, refl, refl)
signs false z w m = (refl, refl, refl, refl)

-- a number with its sign
abbrev pub integer : (minus : Bool) → ℕ → Piece
integer true n = below n
integer false n = number n

-- a signed number, where it is that of a word
pub signed_rows : (after minus : Bool) (z : Opening) (w n c : ℕ) → signed_word w minus n ≡ Some c
    → Both after z w (the Signed ∷ the X ∷ the AtMost ∷ integer minus n ∷ []) 4 c 0
    × Both after z w (integer minus n ∷ the AtMost ∷ the Signed ∷ the X ∷ []) 5 c 0
unfolding followed scanning.followed accepted is_number negated numbered placed with_token agree goes_on follow is_watts is_whole row_at by_row finished nothing_read rule_statement rule_at rule_of rule_with
signed_rows true true z w n c e = ((rw e, rw e), (rw e, rw e))
signed_rows true false z w n c e = ((rw e, rw e), (rw e, rw e))
signed_rows false true z w n c e = ((rw e, rw e), (rw e, rw e))
signed_rows false false z w n c e = ((rw e, rw e), (rw e, rw e))
