-- The kinds of what a line is made of, and the texts of the grammar's words and signs.
use Rattle.std.specs.Prelude.{Bool, cond, List, [], ◌∷◌, ℕ, ◌+◌, ◌*◌, ◌^◌, eqb, fold, ltb}
use Rattle.line.specs.declared.grammar.kind.Kind.{Kind}
use Rattle.line.specs.declared.grammar.kind.Kind.TheVariants.{
  Above,
  Amount,
  And,
  Ask,
  At,
  AtLeast,
  AtMost,
  Back,
  Below,
  Colon,
  Count,
  End,
  Equals,
  For,
  Forward,
  Fraction,
  From,
  Large,
  Least,
  Mark,
  Most,
  Name,
  Negative,
  Not,
  Number,
  Other,
  Plus,
  Rule,
  Settled,
  ShorterLine,
  Show,
  Signed,
  SignedWord,
  Since,
  Statement,
  UpTo,
  Watts,
  Why,
  Within,
  Word,
  X,
}
use Rattle.line.specs.declared.grammar.kind.Kind.TheVariants as kinds

-- a letter more, packed 256 to the place; eight letters are more than any text of the grammar has
unfoldable pub packed : ℕ → ℕ → ℕ
packed text b = cond (ltb text (256 ^ 7)) (256 * text + b) text

-- letters after those that are packed already
abbrev pub packs : ℕ → List ℕ → ℕ
packs text bs = fold packed text bs

-- the number of each kind: two kinds are the same where their numbers are
abbrev pub number : Kind → ℕ
number End = 0
number X = 1
number Plus = 2
number AtMost = 3
number Below = 4
number AtLeast = 5
number Above = 6
number Equals = 7
number And = 8
number UpTo = 9
number Colon = 10
number Not = 11
number Signed = 12
number Settled = 13
number Since = 14
number For = 15
number Watts = 16
number At = 17
number Least = 18
number Most = 19
number Within = 20
number Word = 21
number Mark = 22
number Back = 23
number Forward = 24
number Ask = 25
number Count = 26
number kinds.List = 27
number From = 28
number Why = 29
number Show = 30
number Number = 31
number Negative = 32
number Amount = 33
number Fraction = 34
number Name = 35
number Other = 36
number Large = 37
number Statement = 38
number Rule = 39
number SignedWord = 40
number ShorterLine = 41

abbrev pub same : Kind → Kind → Bool
same a b = eqb (number a) (number b)

-- the words and signs of the grammar
abbrev pub words : List Kind
words =
    X
    ∷ Plus
    ∷ AtMost
    ∷ Below
    ∷ AtLeast
    ∷ Above
    ∷ Equals
    ∷ And
    ∷ UpTo
    ∷ Colon
    ∷ Not
    ∷ Signed
    ∷ Settled
    ∷ Since
    ∷ For
    ∷ Watts
    ∷ At
    ∷ Least
    ∷ Most
    ∷ Within
    ∷ Word
    ∷ Mark
    ∷ Back
    ∷ Forward
    ∷ Ask
    ∷ Count
    ∷ kinds.List
    ∷ From
    ∷ Why
    ∷ Show
    ∷ []

-- the text of each, letter by letter
abbrev pub letters_of : Kind → List ℕ
letters_of X = 120 ∷ []
letters_of Plus = 43 ∷ []
letters_of AtMost = 60 ∷ 61 ∷ []
letters_of Below = 60 ∷ []
letters_of AtLeast = 62 ∷ 61 ∷ []
letters_of Above = 62 ∷ []
letters_of Equals = 61 ∷ []
letters_of And = 38 ∷ []
letters_of UpTo = 46 ∷ 46 ∷ []
letters_of Colon = 58 ∷ []
letters_of Not = 110 ∷ 111 ∷ 116 ∷ []
letters_of Signed = 115 ∷ 105 ∷ 103 ∷ 110 ∷ 101 ∷ 100 ∷ []
letters_of Settled = 115 ∷ 101 ∷ 116 ∷ 116 ∷ 108 ∷ 101 ∷ 100 ∷ []
letters_of Since = 115 ∷ 105 ∷ 110 ∷ 99 ∷ 101 ∷ []
letters_of For = 102 ∷ 111 ∷ 114 ∷ []
letters_of Watts = 119 ∷ 97 ∷ 116 ∷ 116 ∷ 115 ∷ []
letters_of At = 97 ∷ 116 ∷ []
letters_of Least = 108 ∷ 101 ∷ 97 ∷ 115 ∷ 116 ∷ []
letters_of Most = 109 ∷ 111 ∷ 115 ∷ 116 ∷ []
letters_of Within = 119 ∷ 105 ∷ 116 ∷ 104 ∷ 105 ∷ 110 ∷ []
letters_of Word = 119 ∷ 111 ∷ 114 ∷ 100 ∷ []
letters_of Mark = 109 ∷ 97 ∷ 114 ∷ 107 ∷ []
letters_of Back = 98 ∷ 97 ∷ 99 ∷ 107 ∷ []
letters_of Forward = 102 ∷ 111 ∷ 114 ∷ 119 ∷ 97 ∷ 114 ∷ 100 ∷ []
letters_of Ask = 97 ∷ 115 ∷ 107 ∷ []
letters_of Count = 99 ∷ 111 ∷ 117 ∷ 110 ∷ 116 ∷ []
letters_of kinds.List = 108 ∷ 105 ∷ 115 ∷ 116 ∷ []
letters_of From = 102 ∷ 114 ∷ 111 ∷ 109 ∷ []
letters_of Why = 119 ∷ 104 ∷ 121 ∷ []
letters_of Show = 115 ∷ 104 ∷ 111 ∷ 119 ∷ []
letters_of k = []
