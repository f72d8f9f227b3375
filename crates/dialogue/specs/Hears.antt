-- What hearing a line does: it is read at the width of the sheet that is open, and its statement is taken.
use Rattle.std.specs.Prelude.{◌≡◌, List, ℕ}
use Rattle.word.specs.line_width.Width.{reading_at}
use Rattle.line.specs.Line.{read}
use Rattle.dialogue.specs.saying.Says.{Lent}
use Rattle.dialogue.specs.declared.Dialogue.{Dialogue}
use Rattle.dialogue.specs.declared.Hearing.{Hearing}
use Rattle.dialogue.specs.Takes.{Takes, taken}

pub record Hears (d : Dialogue) (text : List ℕ) (b b' : Lent) (e : Dialogue) (r : Hearing) : Type 0 where
  pub line : r.line ≡ read (reading_at d.sheet.width) text
  pub takes : Takes d r.line.statement b b' (taken e r.response)
