-- A route: the number that a gate is given by the tests of the code, "In the order 17, 1, 13, 14, 6".
use Rattle.std.specs.Prelude.{◌≡◌, Bool, ℕ}
use Rattle.gate.specs.declared.Gate.{Gate}
use Rattle.gate.specs.Gate.{not_numbers}
use Rattle.page.specs.Calls.{refusal, set_gate}
use Rattle.page.specs.Page.{page}
use Rattle.sheet.specs.declared.Sheet.{Sheet}
use Rattle.sheet.specs.route.Stands.{Standing, Stands}

-- 17 or 1, which come before the table's other rows; or what the table says of the sheet's page
pub data GateSeen (s : Sheet) (g : Gate) : ℕ → Type 0 where
  before_table : {n : ℕ} → Stands s n → (n ≡ 0 → ⊥) → GateSeen s g n
  by_table : (p : Standing s) → GateSeen s g (refusal (page p.on) (set_gate g))

-- the number that is given to every gate whose limits are numbers, or to every other
unfoldable pub SeenFor : Sheet → (none : Bool) → ℕ → Type 0
SeenFor s none n = (g : Gate) → not_numbers g ≡ none → GateSeen s g n
