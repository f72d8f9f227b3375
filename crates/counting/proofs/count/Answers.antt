-- `count` meets its contract: what passes by the rows is the count of the record that was laid out in them. Assumes nothing.
use mathlib.Core.Path.{◌≡◌, refl, sym, ap, subst}
use native.Mathlib.Omega.{arith}
use Rattle.sheet.proofs.laid_force.Force.{swept_so, width_so}
use Rattle.counting.specs.declared.tally.Total.{Total}
use Rattle.counting.specs.declared.Share.{Share}
use Rattle.counting.specs.Counted.{Counted}
use Rattle.counting.proofs.Held.{refused_count, tallied}
use Rattle.counting.proofs.count.Goals.{Else-is_refused}
use Rattle.counting.proofs.count.Goals as goal

-- a total as it is told
abbrev shared : Total → Share
shared t = record { number = 0; quotient = t.quotient; remainder = t.remainder }

-- nothing is refused
own : (c : Else-is_refused) → c.look-found.result.number ≡ 0
own c = omega (arith, c.if-is_refused.false)

pub look-found-requires : goal.look-found-requires
look-found-requires c = refl

pub returns-then-is_refused : goal.returns-then-is_refused
returns-then-is_refused c = refused_count c.look-found.ensures.stands (λ z. omega (arith, z, c.if-is_refused.true))

pub words-total-requires : goal.words-total-requires
words-total-requires c =
    let e = own (goal.at.words-total-requires c).Else-is_refused in
    record { width = width_so c.look-found.ensures e; lie = (swept_so c.look-found.ensures e).lie; tidy = (swept_so c.look-found.ensures e).tidy }

pub returns : goal.returns
returns c = subst (Counted _) (sym (ap shared c.words-total.ensures)) (tallied c.look-found.ensures (own (goal.at.returns c).Else-is_refused))
