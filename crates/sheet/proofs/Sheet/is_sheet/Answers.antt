-- `Sheet::is_sheet` meets its contract: the record that was laid out was tested, and the test passes exactly for sheets. Assumes nothing.
use mathlib.Core.Path.{sym, ap, ◌∙◌}
use lib.ListN.{length}
use Rattle.sheet.specs.declared.Sheet.{Sheet}
use Rattle.sheet.specs.route.Shape.{is_sheet}
use Rattle.sheet.proofs.slate_whole.Laying.{empty_room}
use Rattle.sheet.proofs.Holding.{marks_length, packed_told, rules_length}
use Rattle.sheet.proofs.Tested.{passes_sheet, sheet_passes}
use Rattle.sheet.proofs.Sheet.is_sheet.Goals as goal

pub lay_out-requires : goal.lay_out-requires
lay_out-requires c = empty_room

pub returns : goal.returns
returns c =
    let told = c.lay_out.ensures.held.tested ∙ sym (packed_told _ _ _) ∙ ap is_sheet c.lay_out.ensures.marks_after in
    let rules = sym (ap (λ (s : Sheet). length s.rules) c.lay_out.ensures.marks_after) ∙ rules_length c.lay_out.ensures.held in
    let marks = sym (ap (λ (s : Sheet). length s.marks) c.lay_out.ensures.marks_after) ∙ marks_length c.lay_out.ensures.held in record { value = told; variant = ((λ e. passes_sheet _ rules marks (sym told ∙ e)), (λ h. told ∙ sheet_passes _ h)) }
