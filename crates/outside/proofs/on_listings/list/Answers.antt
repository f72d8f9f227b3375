-- `list` meets its contract: the words are listed on the sheet that the list makes. Assumes nothing.
use mathlib.Core.Path.{sym, ◌∙◌}
use Rattle.outside.proofs.handing.Rows.{as_many}
use Rattle.outside.proofs.list_made.Parts.{made, stopped}
use Rattle.outside.proofs.making.Reached.{makes_place, makes_reached}
use Rattle.outside.proofs.on_listings.Answered.{listed, refused_list}
use Rattle.outside.proofs.on_listings.list.Goals as goal

pub returns-in-Ok : goal.returns-in-Ok
returns-in-Ok c =
    let h = made _ c.made_of.ensures c.in-Ok.is in
    listed _ h (makes_reached _ _) (sym (makes_place _ _ h.number ∙ as_many c.args.rules.now)) c.args.start c.args.words.now _ c.list-listing.result c.list-listing.ensures

pub returns-in-Err : goal.returns-in-Err
returns-in-Err c = refused_list _ (stopped _ c.made_of.ensures c.in-Err.is) c.args.start c.args.words.now
