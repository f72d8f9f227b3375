-- `note_at` meets its contract: the seven numbers read are those of the note. Assumes nothing.
use mathlib.Core.Path.{sym, ap, ◌∙◌}
use mathlib.Core.List.{[]}
use Prim.Native.Nat.{◌-◌}
use lib.Dec.{eqb}
use lib.ListN.{get_or}
use Rattle.search.specs.verdict.Kept.{keeps}
use Rattle.search.specs.noting.route.Note.{note_at, note_in}
use Rattle.search.proofs.noting.InRow.{note_in_lem}
use Rattle.search.proofs.noting.note_at.Goals as goal

pub returns-then-n-eq0 : goal.returns-then-n-eq0
unfolding note_at
returns-then-n-eq0 c =
    c.no_rules.ensures ∙ sym (ap (note_at c.args.width.bits c.args.rows.now) c.if-n-eq0.true)

pub returns : goal.returns
unfolding note_in
returns c =
    let row = get_or c.args.rows.now (c.args.n - 1) [] in
    (λ i. record { known = eqb (get_or row 7 0) 1; kept = keeps (get_or row 8 0) (get_or row 9 0) (get_or row 10 0); fixed = c.fixed_in-fixed.ensures i })
    ∙ note_in_lem c.args.width.bits c.args.rows.now c.args.n c.if-n-eq0.false
