-- `back` meets its contract: what stays is what stood before the newest mark, and what is kept of it is noted, or found anew. Assumes
-- nothing.
use mathlib.Core.Path.{◌≡◌, sym, ap, ◌∙◌, subst}
use Prim.Native.Nat.{◌-◌, ◌+◌, ◌<◌}
use native.Mathlib.Omega.{arith}
use Rattle.page.specs.Page.{MARKS}
use Rattle.search.specs.declared.noting.Note.{Note}
use Rattle.search.specs.noting.route.Note.{note_at}
use Rattle.sheet.specs.slate.route.Numbers.{before}
use Rattle.sheet.proofs.slate.Holding.{width_so}
use Rattle.sheet.specs.slate.stepping.route.Steps.{Backs, leaves}
use Rattle.sheet.specs.slate.stepping.route.Steps.Backs.{goes_back, stays}
use Rattle.sheet.specs.slate.stepping.route.Steps.Refused.{before_first}
use Rattle.sheet.proofs.slate.stepping.Moved.{moved_beside}
use Rattle.sheet.proofs.slate.stepping.SteppedBack.{leaves_low, mark_there, one_more, sought_back}
use Rattle.sheet.proofs.slate.stepping.going_back.back.Goals.{Else-none, Else-refused}
use Rattle.sheet.proofs.slate.stepping.going_back.back.Goals as goal

-- no number comes before the table
none : (a : Else-refused) → before a.args.head.stands a.args.head.opening.width ≡ 0
none a = sym a.refuses-number.ensures ∙ a.if-refused.false

there : (b : Else-none) → b.args.head.counts.marked - 1 < MARKS
there b = mark_there b.requires (let none-1 : before b.args.head.stands b.args.head.opening.width ≡ 0 = sym b.refuses-number.ensures ∙ b.if-refused.false in none-1) (b.if-none.false)

pub returns-then-refused : goal.returns-then-refused
returns-then-refused c = stays (before_first c.refuses-number.ensures (c.if-refused.true))

pub overflow_sub-at : goal.overflow_sub-at
overflow_sub-at c = omega (arith, c.if-none.false)

pub overflow_add-more : goal.overflow_add-more
overflow_add-more c = omega (arith, one_more c.requires (none (goal.at.overflow_add-more c).Else-refused) (c.if-none.false))

pub offset_bounds-marks-at : goal.offset_bounds-marks-at
offset_bounds-marks-at c = omega (arith, there (goal.at.offset_bounds-marks-at c).Else-none)

pub bounds-marks-at : goal.bounds-marks-at
bounds-marks-at c = there (goal.at.bounds-marks-at c).Else-none

pub no_rules-requires : goal.no_rules-requires
no_rules-requires c = width_so c.requires (none (goal.at.no_rules-requires c).Else-refused)

pub find-note-requires : goal.find-note-requires
unfolding note_at
find-note-requires c =
    sought_back c.requires (none (goal.at.find-note-requires c).Else-refused) (c.if-none.false) _ (ap (λ (m : Note). m.kept) c.no_rules.ensures)

pub returns : goal.returns
returns c =
    let n = none (goal.at.returns c).Else-refused in
    let beside = moved_beside c.requires n (leaves c.args.head c.args.marks.now) (leaves_low c.requires n (c.if-none.false)) (c.args.head.counts.marked - 1) (c.args.head.counts.waiting + 1) _ _ c.find-note.ensures.fixes_so in
    subst (Backs c.args.head c.args.rows.now c.args.marks.now 0) (sym c.of-head.ensures) (goes_back _ _ n (c.if-none.false) beside c.find-note.ensures.keeps_so)
