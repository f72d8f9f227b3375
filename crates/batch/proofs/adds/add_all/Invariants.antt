use mathlib.Core.Path.{◌≡◌}
use Rattle.page.specs.Page.{Page}
use Rattle.page.specs.Reached.{Reached}
use Rattle.sheet.specs.slate.route.Held.{Held}
use Rattle.sheet.specs.route.Held.{packed}
use Rattle.sheet.specs.Record.{fresh}
use Rattle.batch.specs.adds.route.Course.{Under}
use Rattle.batch.proofs.adds.add_all.Given as goal

-- the slate holds what the rules passed leave
abbrev pub invariant-loop-place : goal.invariant-loop-place
invariant-loop-place l = record {
  held : Held l.head l.rows l.marks;
  way : (pg : Page) → Reached pg → packed l.initial.head l.initial.rows l.initial.marks ≡ fresh pg → Under l.edition l.rules pg l.place (packed l.head l.rows l.marks);
}
