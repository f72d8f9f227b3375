-- `take` meets its contract: a dialogue that stopped stays as it is, and else the statement does what it says. Assumes nothing.
use mathlib.Core.Path.{refl, sym, ap, ◌∙◌}
use mathlib.Core.Bool.{Bool}
use Rattle.dialogue.specs.declared.upshot.Response.TheVariants.{Silent}
use Rattle.dialogue.specs.upshot.Upshot.{stops, upshot, upshot_of}
use Rattle.dialogue.proofs.Said.{going_takes, stopped_takes}
use Rattle.dialogue.proofs.Dialogue.take.Goals as goal

pub returns-then-self : goal.returns-then-self
returns-then-self c = stopped_takes _ _ _ _ _ c.if-self.true (ap (λ (v : Bool). upshot c.args.self.now.sheet v Silent) c.if-self.true, refl)

pub returns-in-Ok : goal.returns-in-Ok
returns-in-Ok c =
    let same = ap (λ (v : Bool). upshot c.says.new.sheet v c.in-Ok.response) c.if-self.false ∙ ap (upshot_of c.says.new.sheet) (sym c.in-Ok.is) in
    going_takes _ _ _ _ _ c.if-self.false same c.says.ensures

pub returns-in-Err : goal.returns-in-Err
returns-in-Err c =
    let same = ap (stops c.says.new.sheet) c.from.ensures ∙ ap (upshot_of c.says.new.sheet) (sym c.in-Err.is) in
    going_takes _ _ _ _ _ c.if-self.false same c.says.ensures
