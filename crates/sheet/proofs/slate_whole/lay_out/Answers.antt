-- `lay_out` meets its contract: the rows and marks hold the value's, the head has its numbers, and the test leaves the rules. Assumes nothing.
use mathlib.Core.Path.{ap, ◌∙◌}
use Rattle.search.specs.rows.route.Rows.{rules_in}
use Rattle.sheet.specs.declared.slate.Head.{Head}
use Rattle.sheet.specs.slate.route.Held.{found_to}
use Rattle.sheet.proofs.slate_whole.Laying.{laid_out, rules_bare}
use Rattle.sheet.proofs.slate_whole.lay_out.Goals as goal

pub tested-requires : goal.tested-requires
tested-requires c =
    record { rows_places = c.lay_out.ensures.1; marks_places = c.set_marks.ensures.1 }

pub returns : goal.returns
returns c = record { marks_after = laid_out _ _ (c.tested.ensures.value ∙ ap (λ (h : Head). found_to h c.tested.result.stands c.tested.result.fixed) c.of-head.ensures) (c.tested.ensures.rows_unchanged ∙ ap rules_in c.lay_out.ensures.0 ∙ rules_bare _) c.set_marks.ensures.0; held = c.tested.ensures.held }
