-- `find` meets its contract: each way finds the furthest band, and by the order the place that the walk has come to. Assumes nothing.
use mathlib.Core.Path.{◌≡◌, sym, subst, ◌∙◌}
use mathlib.Core.Bool.{true, false≢true}
use Prim.Native.Nat.{ℕ}
use native.Mathlib.Omega.{arith}
use lib.ListN.{take}
use Rattle.search.specs.rows.route.Bands.{Lie}
use Rattle.search.specs.rows.route.Rows.{bands_in}
use Rattle.chain.specs.route.OnBands.{furthest_band}
use Rattle.search.specs.order.route.Order.{InOrder}
use Rattle.chain.specs.due.route.Due.{Passed, Ready}
use Rattle.chain.proofs.reach.find.Goals as goal

pub furthest-requires : goal.furthest-requires
furthest-requires c =
    let e = sym c.top.ensures in
    let bands = bands_in c.args.rows.now in
    let sorted = c.requires.in_order c.if-way.true in record { lie = subst (λ (t : ℕ). Lie t c.args.n bands) e c.requires.lie; p_le_top = omega (arith, c.requires.p_bound, c.top.ensures); in_order = subst (λ (t : ℕ). InOrder t c.args.n bands c.args.order.now) e sorted.0; ready = subst (λ (t : ℕ). Ready t c.args.n bands c.args.order.now c.args.way.stage.next c.args.way.stage.p) e sorted.1 }

pub returns-then-way : goal.returns-then-way
returns-then-way c =
    let bands = bands_in c.args.rows.now in
    subst (λ (t : ℕ). (c.furthest.result.far ≡ furthest_band (take c.args.n bands) t c.args.way.stage.p) × (c.args.way.sorted ≡ true → Passed t c.args.n bands c.args.order.now c.furthest.result.next c.args.way.stage.p)) c.top.ensures
    (c.furthest.ensures.0, λ e. c.furthest.ensures.1)

pub returns : goal.returns
returns c = (c.furthest-2.ensures, λ e. absurd (false≢true (sym c.if-way.false ∙ e)))
