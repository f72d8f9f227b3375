-- `call` meets its contract: each frame's call is made on the slate, and comes to what it promises. Assumes nothing.
use mathlib.Core.Path.{refl, ◌∙◌}
use Rattle.page.specs.Calls.{add, back, forward, mark, open_at}
use Rattle.frame.specs.Calls.{call_of}
use Rattle.sheet.proofs.Added.{add_after}
use Rattle.sheet.proofs.Asking.{ask_after}
use Rattle.sheet.proofs.Marked.{mark_after}
use Rattle.sheet.proofs.Opened.{open_after}
use Rattle.sheet.proofs.SteppedBack.{back_after}
use Rattle.sheet.proofs.SteppedForward.{forward_after}
use Rattle.desk.proofs.frame_call.Coming.{no_frame_comes, number_comes, reply_comes}
use Rattle.desk.proofs.frame_call.call.Goals as goal

pub ask-requires : goal.ask-requires
ask-requires c = (_, c.requires.held)

pub returns-in-Open : goal.returns-in-Open
unfolding call_of
returns-in-Open c =
    number_comes (open_at _) c.requires.chain_len c.in-Open.is refl (open_after c.requires.held _ c.open.ensures) c.numbered.ensures

pub returns-in-Add : goal.returns-in-Add
unfolding call_of
returns-in-Add c =
    number_comes (add _ _) c.requires.chain_len c.in-Add.is refl (add_after c.requires.held c.add.ensures) c.numbered-in-Add.ensures

pub returns-in-Mark : goal.returns-in-Mark
unfolding call_of
returns-in-Mark c =
    number_comes mark c.requires.chain_len c.in-Mark.is refl (mark_after c.requires.held c.mark.ensures) c.numbered-in-Mark.ensures

pub returns-in-Back : goal.returns-in-Back
unfolding call_of
returns-in-Back c =
    number_comes back c.requires.chain_len c.in-Back.is refl (back_after c.requires.held c.back.ensures) c.numbered-in-Back.ensures

pub returns-in-Ask : goal.returns-in-Ask
returns-in-Ask c =
    reply_comes c.requires.held c.requires.chain_len c.in-Ask.is (c.ask.auto.out ∙ c.requires.chain_len) (ask_after c.requires.held c.ask.ensures)

pub returns-in-Forward : goal.returns-in-Forward
unfolding call_of
returns-in-Forward c =
    number_comes forward c.requires.chain_len c.in-Forward.is refl (forward_after c.requires.held c.forward.ensures) c.numbered-in-Forward.ensures

pub returns-in-NoFrame : goal.returns-in-NoFrame
returns-in-NoFrame c = no_frame_comes c.requires.held c.requires.chain_len c.in-NoFrame.is
