-- A route: what a frame's call comes to before it is written, and its lines.
use Rattle.std.specs.Prelude.{List, [], ◌∷◌, ℕ, ◌≤◌}
use Rattle.word.specs.declared.Edition.{Edition}
use Rattle.rule.specs.Meaning.{RULES}
use Rattle.chain.specs.Links.{most_links}
use Rattle.sheet.specs.declared.slate.Head.{Head}
use Rattle.frame.specs.fields.Answers.{ask_lines, number_line}
use Rattle.frame.specs.fields.Fields.{Line}
use Rattle.desk.specs.declared.told.Called.{Called}
use Rattle.desk.specs.declared.told.Told.{Told}
use Rattle.desk.specs.declared.told.Told.TheVariants.{Asking, Number}

-- its lines, with the links that a buffer holds
unfoldable pub told_lines : Edition → Told → List ℕ → List Line
told_lines e (Number n) b = number_line n ∷ []
told_lines e (Asking r) b = ask_lines e r b

-- no more links than a chain has
unfoldable pub Few : Told → Type 0
Few (Number n) = Unit
Few (Asking r) = r.links ≤ most_links RULES

abbrev pub number_told : ℕ → Head → Called
number_told n h = record { head = h; told = Number n }
