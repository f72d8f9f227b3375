-- `answer` meets its contract: what the call comes to is written, and fits the room. Assumes nothing.
use Rattle.desk.specs.told.route.Told.{told_lines}
use Rattle.desk.proofs.told.Fits.{told_fits}
use Rattle.desk.proofs.answer.answer.Goals as goal

pub returns : goal.returns
returns c = rw (c.found.ensures, c.same.ensures) record {
  frame_answered = record {
    answered = record {
      lines = told_lines _ _ _;
      said = c.call-called.ensures.said;
      puts = c.put-end.ensures;
      fits = told_fits _ _ _ c.call-called.ensures.few;
    };
    held = c.call-called.ensures.held;
  };
  chain_len_2 = (c.call-called.ensures.lent, c.call-called.ensures.left);
}
