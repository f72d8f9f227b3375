-- `lay_out` meets its contract: the marks are those that were laid out. Assumes nothing.
use mathlib.Core.Path.{refl}
use Rattle.sheet.proofs.laid_rows.lay_out.Goals as goal

pub lay_out-requires : goal.lay_out-requires
lay_out-requires c = record { rows_places = c.requires; marks_places = refl }

pub returns : goal.returns
returns c = record { marks = _; packs = c.lay_out.ensures.marks_after; held = c.lay_out.ensures.held }
