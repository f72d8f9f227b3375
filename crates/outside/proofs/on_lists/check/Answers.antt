-- `check` meets its contract: the links are checked on the sheet that the list makes. Assumes nothing.
use mathlib.Core.Path.{sym, ◌∙◌}
use Rattle.outside.proofs.handing.Rows.{as_many}
use Rattle.outside.proofs.list_made.Parts.{made, stopped}
use Rattle.outside.proofs.making.Reached.{makes_place}
use Rattle.outside.proofs.on_lists.Lists.{checked, refused_check}
use Rattle.outside.proofs.on_lists.check.Goals as goal

pub returns-in-Ok : goal.returns-in-Ok
returns-in-Ok c =
    let h = made _ c.made_of.ensures c.in-Ok.is in
    let whole = checked _ h (sym (makes_place _ _ h.number ∙ as_many c.args.rules.now)) c.args.links.now c.accepts-yes.result c.accepts-yes.ensures.value in record { value = whole.0; answer_after = whole.1 }

pub returns-in-Err : goal.returns-in-Err
returns-in-Err c = let whole = refused_check _ (stopped _ c.made_of.ensures c.in-Err.is) c.args.links.now in record { value = whole.0; answer_after = whole.1 }
