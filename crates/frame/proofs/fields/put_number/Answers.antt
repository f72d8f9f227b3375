-- `put_number` meets its contract: its numbers are those of the line, and fields of no digits write nothing. Assumes nothing.
use mathlib.Core.Path.{◌≡◌, ap}
use mathlib.Core.List.{[], ◌∷◌}
use native.Mathlib.Omega.{arith}
use lib.ListN.{length}
use Rattle.frame.specs.fields.Answers.{line_bytes, number_line}
use Rattle.frame.specs.fields.Fields.{field}
use Rattle.frame.proofs.fields.Lines.{accepted, length_number, refused}
use Rattle.frame.proofs.fields.put_number.Goals.{After-byte, After-byte-3}
use Rattle.frame.proofs.fields.put_number.Goals as goal

-- the numbers that the line is made of
accepts : (c : After-byte) → line_bytes (c.byte.result ∷ field 0 0 ∷ field 0 0 ∷ field 0 0 ∷ []) ≡ line_bytes (number_line c.args.number)
accepts c = rw (c.byte.ensures, c.if-number-eq0.true) accepted

refuses : (c : After-byte-3) → line_bytes (c.byte-2.result ∷ c.byte-3.result ∷ field 0 0 ∷ field 0 0 ∷ [])
    ≡ line_bytes (number_line c.args.number)
refuses c = rw (c.byte-2.ensures, c.byte-3.ensures) (refused _ c.if-number-eq0.false)

pub put_line-requires : goal.put_line-requires
put_line-requires c = omega (arith, ap length (accepts (goal.at.put_line-requires c).After-byte), length_number c.args.number)

pub returns-then-number-eq0 : goal.returns-then-number-eq0
returns-then-number-eq0 c = rw (accepts (goal.at.returns-then-number-eq0 c).After-byte) at c.put_line.ensures

pub put_line-requires-2 : goal.put_line-requires-2
put_line-requires-2 c = omega (arith, ap length (refuses (goal.at.put_line-requires-2 c).After-byte-3), length_number c.args.number)

pub returns : goal.returns
returns c = rw (refuses (goal.at.returns c).After-byte-3) at c.put_line-2.ensures
