-- A route: what a frame's call comes to on a slate, before it is written.
use Rattle.std.specs.Prelude.{◌≡◌, List, ℕ, length}
use Rattle.rule.specs.Meaning.{RULES}
use Rattle.chain.specs.Links.{chain_room}
use Rattle.sheet.specs.slate.route.Held.{Held}
use Rattle.sheet.specs.route.Held.{packed}
use Rattle.sheet.specs.declared.Sheet.{Sheet}
use Rattle.frame.specs.Calls.{MadeCall}
use Rattle.frame.specs.Statements.{Said}
use Rattle.desk.specs.declared.told.Called.{Called}
use Rattle.desk.specs.told.route.Told.{Few, told_lines}
use Rattle.desk.specs.frame_call.Chain.{ChainLeft}

-- what is told is what the call gets on the record, the slate holds the record after it, and the chain is left as the call leaves it
pub record ComesTo (s : Sheet) (b : List ℕ) (c : MadeCall) (r : Called) (rows : List (List ℕ)) (marks b' : List ℕ) : Type 0 where
  pub said : Said s c (packed r.head rows marks) (told_lines r.head.opening.edition r.told b')
  pub few : Few r.told
  pub held : Held r.head rows marks
  pub lent : length b' ≡ chain_room RULES
  pub left : ChainLeft s b c b'
