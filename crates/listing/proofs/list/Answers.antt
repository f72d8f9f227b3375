-- `list` meets its contract: what is written by the rows is the listing of the record that was laid out in them. Assumes nothing.
use mathlib.Core.Path.{◌≡◌, refl, sym, subst}
use native.Mathlib.Omega.{arith}
use Rattle.sheet.proofs.laid_force.Force.{swept_so, width_so}
use Rattle.listing.specs.Listed.{Listed}
use Rattle.listing.specs.list_refusal.route.Seen.{before_table, high_start}
use Rattle.listing.proofs.Held.{own_list, refused_list}
use Rattle.listing.proofs.list.Goals.{Else-is_high, Else-is_refused}
use Rattle.listing.proofs.list.Goals as goal

-- nothing comes before the table
own : (c : Else-is_refused) → c.look-found.result.number ≡ 0
own c = omega (arith, c.if-is_refused.false)

pub look-found-requires : goal.look-found-requires
look-found-requires c = refl

pub returns-then-is_refused : goal.returns-then-is_refused
returns-then-is_refused c =
    let z : c.look-found.result.number ≡ 0 → ⊥ = λ e. omega (arith, e, c.if-is_refused.true) in
    subst (Listed _ _ _ _) (sym c.refused.ensures) (refused_list c.look-found.ensures c.args.start c.args.out.now (before_table z) z)

pub top-requires : goal.top-requires
top-requires c = width_so c.look-found.ensures (own (goal.at.top-requires c).Else-is_refused)

pub returns-then-is_high : goal.returns-then-is_high
returns-then-is_high c =
    subst (Listed _ _ _ _) (sym c.refused-then-is_high.ensures)
    (refused_list c.look-found.ensures c.args.start c.args.out.now (high_start (own (goal.at.returns-then-is_high c).Else-is_refused) (omega (arith, c.top.ensures, c.if-is_high.true))) (λ e. omega (arith, e)))

pub fill-written-requires : goal.fill-written-requires
fill-written-requires c =
    let e = own (goal.at.fill-written-requires c).Else-is_refused in
    let w = swept_so c.look-found.ensures e in
    record { width = width_so c.look-found.ensures e; start_bound = (omega (arith, c.top.ensures), w.lie); tidy = w.tidy }

pub returns : goal.returns
returns c =
    own_list c.look-found.ensures c.args.start c.args.out.now (own (goal.at.returns c).Else-is_refused) (omega (arith, c.top.ensures, c.if-is_high.false)) c.fill-written.ensures.value c.fill-written.ensures.out_after
