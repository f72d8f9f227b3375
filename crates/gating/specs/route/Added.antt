-- A route: what is answered to every gate that has these four rules.
use Rattle.std.specs.Prelude.{◌≡◌, false}
use Rattle.gate.specs.declared.Four.{Four}
use Rattle.gate.specs.declared.Gate.{Gate}
use Rattle.gate.specs.Gate.{four_of, not_numbers, through}
use Rattle.page.specs.Calls.{set_gate}
use Rattle.sheet.specs.declared.Answer.{Answer}
use Rattle.sheet.specs.declared.Sheet.{Sheet}
use Rattle.sheet.specs.Statements.{Outcome}

unfoldable pub AddedFor : Sheet → Four → Answer → Type 0
AddedFor s four r = (g : Gate) → not_numbers g ≡ false → four ≡ four_of (through g) → Outcome s (set_gate g) r
