-- Numbers as people write them: `9`, `0x1f`, `0b101`, `-3`, `5.5`. They are taken letter by letter, so that a line is read once.
use Rattle.std.specs.Prelude.{Bool, true, false, not, ◌&&◌, cond, List, [], ◌∷◌, ℕ, ◌+◌, ◌-◌, ◌*◌, ◌^◌, eqb, leb}
use Rattle.digits.specs.declared.numeral.Numeral.{Numeral}
use Rattle.digits.specs.declared.numeral.Stage.{Stage}
use Rattle.digits.specs.declared.numeral.Stage.TheVariants.{Bad, Digits, Large, Needs, Start, Zero}

-- nothing is read
abbrev pub is_start : Stage → Bool
is_start Start = true
is_start s = false

-- a lone 0 is read, which the letter of a base may follow
abbrev pub is_zero : Stage → Bool
is_zero Zero = true
is_zero s = false

-- digits are read, and no letter of a base
abbrev pub has_digits : Stage → Bool
has_digits Zero = true
has_digits Digits = true
has_digits s = false

-- what is no number, or too large, stays so
abbrev pub is_stopped : Stage → Bool
is_stopped Bad = true
is_stopped Large = true
is_stopped s = false

-- the most digits after the point
abbrev pub PLACES : ℕ
PLACES = 9

abbrev pub numeral : (stage : Stage) (minus : Bool) (base : ℕ) (point : Bool) (value places : ℕ) → Numeral
numeral stage minus base point value places =
    record { stage = stage; minus = minus; base = base; point = point; value = value; places = places }

abbrev pub start : Numeral
start = numeral Start false 10 false 0 0

abbrev pub stopped : Stage → Numeral
stopped stage = numeral stage false 10 false 0 0

abbrev pub bad : Numeral
bad = stopped Bad

-- what a digit stands for in the base that has the most, lowercase, and that base for what is no digit
unfoldable pub value_of : ℕ → ℕ
value_of b = cond (leb 48 b && leb b 57) (b - 48) (cond (leb 97 b && leb b 102) (b - 87) 16)

-- a minus stands first, or nowhere
unfoldable pub below_zero : Numeral → Numeral
below_zero n = cond (is_start n.stage) (numeral Needs true 10 false 0 0) bad

-- a point stands once, between digits of a decimal number
unfoldable pub pointed : Numeral → Numeral
pointed n =
    cond (eqb n.base 10 && (not n.point && has_digits n.stage))
    (numeral Needs n.minus 10 true n.value 0)
    bad

-- the digits of a base are to come
abbrev pub in_base : ℕ → Bool → Numeral
in_base base minus = numeral Needs minus base false 0 0

-- a first 0 stands alone as yet
unfoldable pub past_digit : Stage → ℕ → Stage
past_digit stage d = cond (is_start stage && eqb d 0) Zero Digits

-- a digit after the point is one more
abbrev pub past_place : ℕ → Bool → ℕ
past_place places true = places + 1
past_place places false = places

-- a digit more, where the base has it and the number stays within 64 bits
unfoldable pub digit : Numeral → ℕ → Numeral
digit n d =
    cond (is_stopped n.stage) (stopped n.stage)
    (cond (leb n.base d) bad
    (cond (leb PLACES n.places) bad
    (cond (leb (n.base * n.value + d) (2 ^ 64 - 1))
    (numeral (past_digit n.stage d) n.minus n.base n.point (n.base * n.value + d) (past_place n.places n.point))
    (stopped Large))))

-- after a lone 0 stands the letter of a base, the `x` of 0x or the `b` of 0b, or a digit
unfoldable pub after_zero : Numeral → ℕ → Numeral
after_zero n b = cond (eqb b 120) (in_base 16 n.minus) (cond (eqb b 98) (in_base 2 n.minus) (digit n (value_of b)))

-- one letter more: `-`, `.`, and else a digit or the letter of a base
unfoldable pub next : Numeral → ℕ → Numeral
next n b = cond (eqb b 45) (below_zero n) (cond (eqb b 46) (pointed n) (cond (is_zero n.stage) (after_zero n b) (digit n (value_of b))))

-- the letters of a list, one after the other
unfoldable pub numeral_from : Numeral → List ℕ → Numeral
numeral_from n [] = n
numeral_from n (b ∷ bs) = numeral_from (next n b) bs
