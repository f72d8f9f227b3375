-- What answering a frame on a slate promises: what it promises of the record, and that the slate holds it. What the numbers lent for the chain
-- hold then, the frame's call says.
use Rattle.std.specs.Prelude.{List, ℕ}
use Rattle.sheet.specs.slate.route.Held.{Held}
use Rattle.sheet.specs.route.Held.{packed}
use Rattle.sheet.specs.declared.Sheet.{Sheet}
use Rattle.frame.specs.declared.Frame.{Frame}
use Rattle.frame.specs.Calls.{call_of}
use Rattle.frame.specs.Statements.{Answered}
use Rattle.desk.specs.declared.answer.AfterFrame.{AfterFrame}

pub record FrameAnswered (s : Sheet) (f : Frame) (b : List ℕ) (at : ℕ) (b' : List ℕ) (r : AfterFrame) (rows : List (List ℕ)) (marks : List ℕ) : Type 0 where
  pub answered : Answered s (call_of f) b at b' (packed r.head rows marks) r.end
  pub held : Held r.head rows marks
