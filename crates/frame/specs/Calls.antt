-- The call that a frame makes (01, "Lines of hexadecimal").
use Rattle.std.specs.Prelude.{List, ℕ}
use Rattle.rule.specs.Meaning.{RULES}
use Rattle.chain.specs.Links.{chain_room}
use Rattle.page.specs.Calls.{Call, add, back, forward, mark, open_at}
use Rattle.frame.specs.declared.Frame.{Frame}
use Rattle.frame.specs.declared.Frame.TheVariants.{Add, Ask, Back, Forward, Mark, NoFrame, Open}
use Rattle.frame.specs.route.Reading.{frame_of}

-- none, a call that is answered by its number, or asking, which gives a reply
pub data MadeCall : Type 0 where
  none : MadeCall
  makes : Call → MadeCall
  asks : (room : ℕ) → MadeCall

-- "open", "add", "mark", "back", "ask", and "the program always lends enough for the chain"; forward; a line that is none of the
-- frames: "no call is then made"
unfoldable pub call_of : Frame → MadeCall
call_of (Open g) = makes (open_at g)
call_of (Add e u) = makes (add e u)
call_of Mark = makes mark
call_of Back = makes back
call_of Ask = asks (chain_room RULES)
call_of Forward = makes forward
call_of NoFrame = none

-- the call that a line makes
unfoldable pub line_call : List ℕ → MadeCall
line_call l = call_of (frame_of l)
