-- `count` meets its contract: the words are counted on the sheet that the list makes. Assumes nothing.
use mathlib.Core.Path.{sym, ◌∙◌}
use Rattle.outside.proofs.handing.Rows.{as_many}
use Rattle.outside.proofs.list_made.Parts.{made, stopped}
use Rattle.outside.proofs.making.Reached.{makes_place, makes_reached}
use Rattle.outside.proofs.on_counts.Answered.{counted, refused_count}
use Rattle.outside.proofs.on_counts.count.Goals as goal

pub returns-in-Ok : goal.returns-in-Ok
returns-in-Ok c =
    let h = made _ c.made_of.ensures c.in-Ok.is in
    let whole = counted _ h (makes_reached _ _) (sym (makes_place _ _ h.number ∙ as_many c.args.rules.now)) c.count-share.result c.count-share.ensures in record { value = whole.0; answer_after = whole.1 }

pub returns-in-Err : goal.returns-in-Err
returns-in-Err c = let whole = refused_count _ (stopped _ c.made_of.ensures c.in-Err.is) in record { value = whole.0; answer_after = whole.1 }
