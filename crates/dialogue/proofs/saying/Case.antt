-- What a statement does, from the case that it is, which only picks a row; and a line on watts from what its limits come to. Assumes nothing.
use mathlib.Core.Path.{◌≡◌, refl, sym, ap, subst}
use Rattle.std.specs.Prelude.{Result, Ok, Err, IsErrAnd}
use Rattle.gate.specs.declared.Gate.{Gate}
use Rattle.page.specs.Calls.{set_gate}
use Rattle.sheet.specs.declared.Sheet.{Sheet}
use Rattle.line.specs.declared.scan.Mistake.{Mistake}
use Rattle.line.specs.declared.Statement.{Statement}
use Rattle.dialogue.specs.declared.upshot.Response.{Response}
use Rattle.dialogue.specs.declared.upshot.Stop.{Stop}
use Rattle.dialogue.specs.declared.upshot.Stop.TheVariants.{Mistaken}
use Rattle.dialogue.specs.upshot.Upshot.{Upshot, upshot_of}
use Rattle.dialogue.specs.saying.Says.{Calls, Gated, Lent, Says, Wanted}

pub by_case : (s : Sheet) {st case : Statement} (b b' : Lent) (r : Upshot) → st ≡ case → Says s case b b' r → Says s st b b' r
by_case s b b' r e p = subst (λ (t : Statement). Says s t b b' r) (sym e) p

module _ (s : Sheet) (b : Lent) {w : Wanted} where
  -- the limits are read, and the gate is set
  pub by_gate : {g : Gate} (r : Upshot) → w ≡ Ok g → ((b : Lent) → Calls s (set_gate g) b b r) → Gated s w b b r
  unfolding Gated
  by_gate r e p = subst (λ (w : Wanted). Gated s w b b r) (sym e) (p b)

  -- one of them is a mistake
  pub by_mistake : {m : Mistake} (r : Result Response Stop) → w ≡ Err m → IsErrAnd r (λ e. e ≡ Mistaken m) → Gated s w b b (upshot_of s r)
  unfolding Gated
  by_mistake (Ok _) q p = elim p [ ]
  by_mistake (Err e) q p = subst (λ (w : Wanted). Gated s w b b (upshot_of s (Err e))) (sym q) (ap (λ (e : Stop). upshot_of s (Err e)) p, refl)
