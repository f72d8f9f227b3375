-- What a line is made of, letter by letter: letters of one class in a row are one token.
use Rattle.std.specs.Prelude.{Bool, true, false, ◌&&◌, ◌||◌, cond, ℕ, eqb, leb}
use Rattle.digits.specs.declared.numeral.Numeral.{Numeral}
use Rattle.digits.specs.declared.numeral.Stage.{Stage}
use Rattle.digits.specs.declared.numeral.Stage.TheVariants.{Bad, Needs}
use Rattle.digits.specs.declared.numeral.Stage.TheVariants as stages
use Rattle.digits.specs.numeral.Numeral.{next, start}
use Rattle.line.specs.declared.grammar.kind.Kind.{Kind}
use Rattle.line.specs.declared.grammar.kind.Kind.TheVariants.{Amount, Fraction, Name, Negative, Number, Other}
use Rattle.line.specs.declared.grammar.kind.Kind.TheVariants as kinds
use Rattle.line.specs.grammar.Grammar.{kind_of}
use Rattle.line.specs.grammar.Kinds.{packed}
use Rattle.line.specs.declared.token.class.Class.{Class}
use Rattle.line.specs.declared.token.class.Class.TheVariants.{Blank, Comment, Minus, Sign, Stray, Word}
use Rattle.line.specs.declared.token.Token.{Token}

-- two classes are the same
abbrev pub same : Class → Class → Bool
same Blank Blank = true
same Word Word = true
same Sign Sign = true
same Comment Comment = true
same Stray Stray = true
same Minus Minus = true
same a b = false

-- `.`, `_`, `0` to `9`, `A` to `Z`, `a` to `z`
unfoldable pub is_word : ℕ → Bool
is_word b = eqb b 46 || (eqb b 95 || ((leb 48 b && leb b 57) || ((leb 65 b && leb b 90) || (leb 97 b && leb b 122))))

-- `&`, `+`, `:`, and `<`, `=`, `>`
unfoldable pub is_sign : ℕ → Bool
is_sign b = eqb b 38 || (eqb b 43 || (eqb b 58 || (leb 60 b && leb b 62)))

-- a space, a tab, or the byte 13 that ends a line before its byte 10
unfoldable pub is_blank : ℕ → Bool
is_blank b = eqb b 32 || (eqb b 9 || eqb b 13)

-- `#` begins a comment
unfoldable pub class_of : ℕ → Class
class_of b =
    cond (is_word b) Word (cond (is_sign b) Sign (cond (is_blank b) Blank (cond (eqb b 35) Comment (cond (eqb b 45) Minus Stray))))

abbrev pub token : (class : Class) (from text : ℕ) → Numeral → Token
token class from text n = record { class = class; from = from; text = text; numeral = n }

-- nothing is read, as where blanks stand
abbrev pub none : Token
none = token Blank 0 0 start

-- a minus begins a number
unfoldable pub opened : Class → Class
opened Minus = Word
opened c = c

-- a letter of a class begins a token
unfoldable pub begun : (class : Class) (b at : ℕ) → Token
begun class b at = token (opened class) at b (next start b)

unfoldable pub more : Token → ℕ → Token
more t b = token t.class t.from (packed t.text b) (next t.numeral b)

-- a sign that is none of the grammar's is no name
abbrev pub of_sign : Kind → Kind
of_sign Name = Other
of_sign k = k

-- the kind of a text that is no number
unfoldable pub text_kind : (text : ℕ) → Class → Kind
text_kind text Word = kind_of text
text_kind text class = of_sign (kind_of text)

-- the kind of a number: of any kind in a line on watts
unfoldable pub kind_of_number : Numeral → Bool → Kind
kind_of_number n watts = cond watts Amount (cond n.point Fraction (cond n.minus Negative Number))

-- the kind of a token by how far the number came that it may be
abbrev pub kind_by : Stage → Token → Bool → Kind
kind_by Bad t watts = text_kind t.text t.class
kind_by Needs t watts = Other
kind_by stages.Large t watts = kinds.Large
kind_by stage t watts = kind_of_number t.numeral watts

unfoldable pub kind : Token → Bool → Kind
kind t watts = cond (same t.class Stray) Other (kind_by t.numeral.stage t watts)
