-- The numbers of a frame, read: a route, and no meaning. That a line is read as a frame just where it is that frame is proved above
-- (frame: proofs/ReadBack.antt).
use Rattle.std.specs.Prelude.{cond, List, ℕ, ◌+◌, eqb}
use Rattle.std.proofs.Math.Seq.{slice}
use Rattle.word.specs.declared.Edition.{Edition}
use Rattle.word.specs.declared.Edition.TheVariants.{New, Old}
use Rattle.word.specs.Edition.{terms}
use Rattle.rule.specs.declared.Rule.{Rule}
use Rattle.rule.specs.Meaning.{rule}
use Rattle.digits.specs.hexadecimal.Hex.{number}
use Rattle.frame.specs.fields.Fields.{BYTE, WORD}

-- where an opening ends; where the numbers of an add begin, and where it ends
abbrev pub OPENING : ℕ
OPENING = BYTE + BYTE

abbrev pub FORM : ℕ
FORM = BYTE

abbrev pub SENSE : ℕ
SENSE = FORM + BYTE

abbrev pub C1 : ℕ
C1 = SENSE + BYTE

abbrev pub adding : Edition → ℕ
adding e = C1 + WORD e + WORD e

-- the rule of an add whose constants have so many digits
unfoldable pub rule_of : (digits : ℕ) → List ℕ → Rule
rule_of d l =
    rule (number (slice FORM SENSE l)) (number (slice SENSE C1 l)) (number (slice C1 (C1 + d) l)) (number (slice (C1 + d) (C1 + d + d) l))

-- the edition whose frames have a code; a code that has none is looked for among the old ones
unfoldable pub code_edition : ℕ → Edition
code_edition code = cond (eqb code (terms New).opens) New (cond (eqb code (terms New).adds) New Old)
