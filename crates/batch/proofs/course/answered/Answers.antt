-- `answered` meets its contract: the first refusal ends the batch, and where there is none the sheet is asked. Assumes nothing.
use mathlib.Core.Path.{refl}
use Rattle.sheet.proofs.Asking.{ask_after}
use Rattle.batch.proofs.course.UnderWay.{asked_batch, refused_batch}
use Rattle.batch.proofs.course.answered.Goals as goal

pub ask-requires : goal.ask-requires
ask-requires c = (_, c.in-Ok.ensures.0)

pub returns-in-Ok : goal.returns-in-Ok
returns-in-Ok c =
    asked_batch c.args.opening c.args.rules.now c.args.given c.in-Ok.ensures.1 refl (ask_after c.in-Ok.ensures.0 c.ask.ensures) refl

pub returns-in-Err : goal.returns-in-Err
returns-in-Err c =
    refused_batch c.args.opening c.args.rules.now c.args.given c.in-Err.ensures.2 c.in-Err.ensures.1 c.args.out.now refl c.refusal.ensures
