-- `shown` meets its contract: a record that is no sheet gets 17 and the blank one 1. Assumes nothing.
use mathlib.Core.Path.{◌≡◌, refl, sym, ◌∙◌}
use mathlib.Core.Bool.{Bool, true, false, false≢true}
use mathlib.Core.Logic.{◌↔◌}
use Rattle.sheet.specs.declared.Sheet.{Sheet}
use Rattle.sheet.specs.route.Shape.{is_sheet}
use Rattle.sheet.specs.route.Stands.{no_sheet}
use Rattle.sheet.specs.Statements.{IsSheet}
use Rattle.sheet.proofs.Stands.{has_width, is_blank_lem}
use Rattle.dialogue.specs.upshot.Upshot.{by_number}
use Rattle.dialogue.proofs.saying.shown.Goals as goal

module _ (s : Sheet) (t : Bool) (e : (t ≡ is_sheet s) × ((t ≡ true) ↔ IsSheet s)) where
  told : t ≡ true → IsSheet s
  told q = e.1.0 q

  untold : t ≡ false → IsSheet s → ⊥
  untold q i = false≢true (sym q ∙ e.1.1 i)

pub returns-then-not-is_sheet : goal.returns-then-not-is_sheet
unfolding by_number
returns-then-not-is_sheet c =
    record {
      number = 17;
      stands = no_sheet (untold _ _ (c.is_sheet.ensures.value, c.is_sheet.ensures.variant) (c.if-not-is_sheet.true));
      result = refl;
    }

pub returns-then-sheet-eq0 : goal.returns-then-sheet-eq0
unfolding by_number
returns-then-sheet-eq0 c =
    record {
      number = 1;
      stands = is_blank_lem (told _ _ (c.is_sheet.ensures.value, c.is_sheet.ensures.variant) (c.if-not-is_sheet.false)) c.if-sheet-eq0.true;
      result = refl;
    }

pub returns : goal.returns
unfolding by_number
returns c =
    record {
      number = 0;
      stands = has_width (told _ _ (c.is_sheet.ensures.value, c.is_sheet.ensures.variant) (c.if-not-is_sheet.false)) c.if-sheet-eq0.false;
      result = refl;
    }
