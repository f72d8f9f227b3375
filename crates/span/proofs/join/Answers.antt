-- `join` meets its contract: each way out is a case of the definition. Assumes nothing.
use mathlib.Core.Path.{ap, ◌∙◌}
use Rattle.span.specs.interval.Interval.{cut}
use Rattle.span.specs.Join.{new_h}
use Rattle.span.specs.refusal.Refusal.{told}
use Rattle.span.proofs.Joining.{may_cut, out_cut, out_empty, out_refused}
use Rattle.span.proofs.join.Goals as goal

pub returns-in-Err : goal.returns-in-Err
unfolding told
returns-in-Err c = out_refused _ _ _ _ _ c.second.ensures _ c.number.ensures c.in-Err.ensures.number c.as_given.ensures

pub span-requires : goal.span-requires
unfolding told
span-requires c =
    let a = may_cut _ _ _ _ _ c.second.ensures c.in-Ok.ensures.bits c.in-Ok.ensures.number in
    record { width = a.width; words = (a.x_words, a.y_words) }

pub cut_x-new_x-requires : goal.cut_x-new_x-requires
unfolding told
cut_x-new_x-requires c =
    let a = may_cut _ _ _ _ _ c.second.ensures c.in-Ok.ensures.bits c.in-Ok.ensures.number in
    record { width = a.width; words = (a.h_words, a.y_words) }

pub cut_y-new_y-requires : goal.cut_y-new_y-requires
unfolding told
cut_y-new_y-requires c =
    let a = may_cut _ _ _ _ _ c.second.ensures c.in-Ok.ensures.bits c.in-Ok.ensures.number in
    record { width = a.width; words = (a.h_words, a.x_words) }

pub returns-then-any_hollow : goal.returns-then-any_hollow
unfolding new_h told
returns-then-any_hollow c =
    out_empty _ _ _ _ _ c.second.ensures c.in-Ok.ensures.bits c.in-Ok.ensures.number
    (c.cut-new_h.ensures ∙ ap (cut c.args.h) c.span.ensures)
    c.cut_x-new_x.ensures c.cut_y-new_y.ensures c.second-2.ensures c.any_hollow.ensures
    c.if-any_hollow.true c.as_given-then-any_hollow.ensures

pub returns : goal.returns
unfolding new_h told
returns c =
    out_cut _ _ _ _ _ c.second.ensures c.in-Ok.ensures.bits c.in-Ok.ensures.number
    (c.cut-new_h.ensures ∙ ap (cut c.args.h) c.span.ensures)
    c.cut_x-new_x.ensures c.cut_y-new_y.ensures c.second-2.ensures c.any_hollow.ensures
    c.if-any_hollow.false
