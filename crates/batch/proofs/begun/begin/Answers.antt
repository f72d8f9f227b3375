-- `begin` meets its contract: each call on the slate is the call on the record that it stands for. Assumes nothing.
use mathlib.Core.Path.{◌≡◌, ◌∙◌}
use Rattle.sheet.specs.route.Held.{packed}
use Rattle.sheet.specs.Record.{blank}
use Rattle.sheet.proofs.Opened.{open_after}
use Rattle.batch.proofs.begun.Opening.{opened_sheet, passed_on, refused_opening}
use Rattle.batch.proofs.begun.begin.Goals.{After-open-said}
use Rattle.batch.proofs.begun.begin.Goals as goal

-- the opening is made on the record that was laid out, which is blank
blank-is : (o : After-open-said) → packed o.lay_out-head.result o.lay_out-head.new.rows o.lay_out-head.new.marks ≡ blank
blank-is o = o.lay_out-head.ensures.marks_after ∙ o.blank.ensures

pub returns-then-is_refused : goal.returns-then-is_refused
returns-then-is_refused c =
    let done = open_after c.lay_out-head.ensures.held _ c.open-said.ensures in (
      done.held,
      c.if-is_refused.true,
      refused_opening _ (blank-is (goal.at.returns-then-is_refused c).After-open-said) done _ _ c.if-is_refused.true,
    )

pub add_all-requires : goal.add_all-requires
add_all-requires c =
    let done = open_after c.lay_out-head.ensures.held _ c.open-said.ensures in
    (done.held, opened_sheet _ (blank-is (goal.at.add_all-requires c).After-open-said) done)

pub returns : goal.returns
returns c =
    passed_on _ (blank-is (goal.at.returns c).After-open-said) (open_after c.lay_out-head.ensures.held _ c.open-said.ensures) _ _ c.if-is_refused.false _ _ c.add_all.result c.add_all.ensures
