-- `all_at` meets its contract: what is drawn of the record as it is laid out is drawn of the record. Assumes nothing.
use mathlib.Core.Path.{◌≡◌, refl, sym, ◌∙◌, subst}
use lib.ListN.{take}
use Rattle.search.specs.rows.route.Rows.{rules_in}
use Rattle.sheet.specs.declared.Sheet.{Sheet}
use Rattle.sheet.specs.route.Held.{packed}
use Rattle.checker.proofs.Held.{lie_so, own_rules, tidy_so, width_so}
use Rattle.picture.specs.declared.shade.Cell.{Cell}
use Rattle.std.specs.Prelude.{Some}
use Rattle.picture.specs.Picture.{all_cell}
use Rattle.picture.specs.route.Shown.{shown}
use Rattle.picture.proofs.Drawn.{Laid, all_shown, by_fits, words_so}
use Rattle.picture.proofs.all_cells.all_at.Goals.{After-lay_out-head, In-Some}
use Rattle.picture.proofs.all_cells.all_at.Goals as goal

abbrev sheet_of : After-lay_out-head → Sheet
sheet_of o = packed o.lay_out-head.result o.lay_out-head.new.rows o.lay_out-head.ensures.marks

-- what is right of the record as it is laid out is right of the record
right : (o : After-lay_out-head) (r : Cell) → r ≡ all_cell (sheet_of o) o.args.column → r ≡ all_cell o.args.sheet o.args.column
right o r e = subst (λ (s : Sheet). r ≡ all_cell s o.args.column) o.lay_out-head.ensures.packs e

told : (d : In-Some) → Some d.in-Some.words ≡ shown d.lay_out-head.result.stands d.lay_out-head.result.opening.width d.args.column
told d = sym d.in-Some.is ∙ d.words_of.ensures

so : (d : In-Some) → Laid d.lay_out-head.result d.in-Some.words
so d = words_so d.lay_out-head.ensures.held d.args.column (told d)

pub lay_out-head-requires : goal.lay_out-head-requires
lay_out-head-requires c = refl

pub words_of-requires : goal.words_of-requires
words_of-requires c = width_so c.lay_out-head.ensures.held

pub returns-in_default : goal.returns-in_default
returns-in_default c =
    right (goal.at.returns-in_default c).After-lay_out-head _ (all_shown c.lay_out-head.ensures.held c.args.column (sym c.in_default.is ∙ c.words_of.ensures))

pub stretch-requires : goal.stretch-requires
stretch-requires c =
    let w = so (goal.at.stretch-requires c).In-Some in record { width = width_so c.lay_out-head.ensures.held w.stands w.opened; lie = lie_so c.lay_out-head.ensures.held w.stands w.opened; tidy = (tidy_so c.lay_out-head.ensures.held w.stands w.opened, w.order, w.below) }

pub returns : goal.returns
returns c =
    let w = so (goal.at.returns c).In-Some in
    let rs = take c.lay_out-head.result.counts.count (rules_in c.lay_out-head.new.rows) in
    right (goal.at.returns c).After-lay_out-head _
    (c.stretch.ensures
    ∙ by_fits c.lay_out-head.result.opening.width (width_so c.lay_out-head.ensures.held w.stands w.opened).low _ _ rs (own_rules c.lay_out-head.ensures.held w.stands w.opened) c.in-Some.words.from c.in-Some.words.to w.below
    ∙ all_shown c.lay_out-head.ensures.held c.args.column (told (goal.at.returns c).In-Some))
