-- `run` meets its contract: a refusal, or the walk. Assumes nothing.
use mathlib.Core.Path.{sym, ap, ◌∙◌}
use borrow.Author.Tests.{ne_eqb}
use Rattle.net.specs.route.Run.{ran}
use Prim.Native.Nat.{ℕ}
use Rattle.net.specs.declared.Ended.TheVariants.{Refused}
use Rattle.net.specs.Net.{given, turned_down}
use Rattle.net.specs.refusal.Refusal.{told}
use Rattle.net.proofs.Accepted.{accepted, all_named}
use Rattle.net.proofs.Numbers.{some_number}
use Rattle.net.proofs.Net.run.Goals as goal

pub returns-in-Some : goal.returns-in-Some
unfolding ran turned_down told
returns-in-Some c =
    rw (← c.in-Some.ensures, ne_eqb _ 0 (some_number c.in-Some.refusal))
    (c.given.ensures ∙ ap (λ (n : ℕ). given (Refused n) 0 c.args.self.words) c.number.ensures)

pub walk-requires : goal.walk-requires
unfolding told
walk-requires c = all_named (accepted (sym c.in-None.ensures))

pub returns-in-None : goal.returns-in-None
unfolding ran told
returns-in-None c = rw (← c.in-None.ensures) c.walk.ensures
