-- What a frame's call leaves in the numbers lent for the chain.
use Rattle.std.specs.Prelude.{List, ℕ}
use Rattle.page.specs.Calls.{Call}
use Rattle.sheet.specs.declared.slate_ask.Reply.{Reply}
use Rattle.sheet.specs.declared.Sheet.{Sheet}
use Rattle.sheet.specs.Statements.{Asked}
use Rattle.frame.specs.Calls.{MadeCall, asks, makes, none}

-- what the numbers lent for the chain, b before, hold after a call: what asking leaves there where it asks; no other call touches them
pub data ChainLeft (s : Sheet) (b : List ℕ) : MadeCall → List ℕ → Type 0 where
  by_asking : {m : ℕ} {b' : List ℕ} (r : Reply) → Asked s b b' r → ChainLeft s b (asks m) b'
  untouched : {c : Call} → ChainLeft s b (makes c) b
  no_frame : ChainLeft s b none b
