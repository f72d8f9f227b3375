-- `rises` meets its contract. The loop's invariant: the numbers passed are those of bands, their eves rise, and the last is the greatest. The
-- measure is the numbers left. Assumes nothing.
use mathlib.Core.Path.{◌≡◌, ap, subst, ◌∙◌}
use mathlib.Core.Bool.{false≢true}
use Prim.Native.Nat.{◌-◌}
use native.Mathlib.Omega.{arith}
use Rattle.search.specs.rows.route.Bands.{blank_band, seen}
use Rattle.search.specs.rows.route.Rows.{bands_in}
use Rattle.search.proofs.rows.Reading.{laid_take}
use Rattle.search.specs.order.route.Order.{Rising, eve}
use Rattle.search.proofs.order.Rise.{most_more, rising_more}
use Rattle.search.proofs.order.test.rises.Goals as goal

pub loop-k-init : goal.loop-k-init
loop-k-init c = (omega arith, record { own = λ l h. absurd (omega arith); rising = λ l m a h. absurd (omega arith) }, λ l h. absurd (omega arith))

pub returns-then-n-i : goal.returns-then-n-i
returns-then-n-i c = λ e. absurd (false≢true e)

pub band_at-requires : goal.band_at-requires
band_at-requires c = record { i_bound = omega (arith, c.requires.count, c.if-n-i.false); laid = laid_take _ (bands_in c.args.rows.now) c.args.n _ blank_band c.if-n-i.false (omega (arith, c.requires.places, c.requires.count)) c.requires.laid }

pub returns-then-next-last : goal.returns-then-next-last
returns-then-next-last c = λ e. absurd (false≢true e)

pub loop-k-preserved : goal.loop-k-preserved
unfolding seen
loop-k-preserved c =
    let next = c.eve-next.ensures ∙ ap (eve c.args.top) c.band_at.ensures in (
      omega arith,
      rising_more _ _ _ c.args.order.now c.loop-k.k _ _ c.loop-k.invariant.1 c.loop-k.invariant.2 c.if-n-i.false next c.if-next-last.false,
      most_more _ _ _ c.args.order.now c.loop-k.k _ _ c.loop-k.invariant.1 c.loop-k.invariant.2 c.if-n-i.false next c.if-next-last.false,
    )

pub returns : goal.returns
returns c =
    let done : c.loop-k.k ≡ c.args.n = omega arith in
    λ e. subst (Rising c.args.top c.args.n (bands_in c.args.rows.now) c.args.order.now) done c.loop-k.invariant.1
