-- `furthest` meets its contract. The loop's invariant: the bands looked at started at p or before, and the best so far is theirs. Those before
-- them hold p, and those after them start later. The measure is the places left. Assumes nothing.
use mathlib.Core.Path.{◌≡◌, sym, ap, ◌∙◌, subst}
use mathlib.Core.List.{List}
use Prim.Native.Nat.{ℕ, ◌-◌, ◌≤◌, ◌<◌}
use native.Mathlib.Omega.{arith}
use borrow.Author.Count.{below_more}
use lib.ListN.{get_or, take}
use Rattle.word.specs.Search.{climb}
use Rattle.rule.specs.band.route.Band.{Laid, holds}
use Rattle.rule.specs.declared.band.Band.{Band}
use Rattle.search.specs.rows.route.Bands.{Lie, blank_band, seen}
use Rattle.search.specs.rows.route.Rows.{bands_in}
use Rattle.search.proofs.rows.Reading.{laid_take}
use Rattle.chain.specs.route.OnBands.{furthest_band}
use Rattle.search.specs.order.route.Order.{InOrder, band_at, eve, placed_band}
use Rattle.chain.specs.due.route.Due.{better}
use Rattle.chain.proofs.due.Best.{Held, More, kept, taken}
use Rattle.chain.proofs.due.Walk.{Seen, complete, seen_more}
use Rattle.chain.proofs.due.furthest.Goals.{After-band_at-band, After-eve, At-loop-k, Joined-not-holds, else-not-holds, then-not-holds}
use Rattle.chain.proofs.due.furthest.Goals as goal

-- the bands that lie in the rows, and the number that stands at the place
abbrev lying : At-loop-k → List Band
lying l = bands_in l.args.rows.now

abbrev number : At-loop-k → ℕ
number l = get_or l.args.order.now l.loop-k.k 0

lie : (l : At-loop-k) → Lie l.args.top l.args.n (lying l)
lie l = l.requires.lie

in_order : (l : At-loop-k) → InOrder l.args.top l.args.n (lying l) l.args.order.now
in_order l = l.requires.in_order

own : (l : At-loop-k) → l.loop-k.k < l.args.n → number l < l.args.n
own l h = (in_order l).rises.own l.loop-k.k h

laid : (l : At-loop-k) → l.loop-k.k < l.args.n → Laid l.args.top (band_at (lying l) (number l))
laid l h =
    laid_take _ (lying l) l.args.n (number l) blank_band (own l h) (omega (arith, (lie l).places, (lie l).count)) (lie l).laid

read : (b : After-band_at-band) → b.band_at-band.result ≡ band_at (bands_in b.args.rows.now) (get_or b.args.order.now b.loop-k.k 0)
unfolding seen
read b = b.band_at-band.ensures

-- where the band's later run starts after p, or not
eve-at : (v : After-eve) → v.eve.result ≡ eve v.args.top (band_at (bands_in v.args.rows.now) (get_or v.args.order.now v.loop-k.k 0))
unfolding seen
eve-at v = v.eve.ensures ∙ ap (eve _) (v.band_at-band.ensures)

-- what is found where no band after the place can fail p
found : (l : At-loop-k) → ((j : ℕ) → l.loop-k.k ≤ j → j < l.args.n → l.args.stage.p ≤ eve l.args.top (placed_band (lying l) l.args.order.now j)) → l.loop-k.far ≡ furthest_band (take l.args.n (lying l)) l.args.top l.args.stage.p
found l later =
    complete _ l.args.n _ (lying l) l.args.order.now l.args.stage.next l.loop-k.k l.loop-k.far (lie l).places (lie l).count (in_order l)
    l.requires.ready l.loop-k.invariant.1.count later l.loop-k.invariant.2

-- the best of the bands up to the next place
best-on : (c : Joined-not-holds) → Held c.args.top c.args.stage.p (bands_in c.args.rows.now)
    (More c.args.top c.args.stage.p (bands_in c.args.rows.now) (Seen c.args.order.now c.args.stage.next c.loop-k.k) (get_or c.args.order.now c.loop-k.k 0))
    c.if-not-holds.far
unfolding seen
best-on c =
    let best = Held c.args.top c.args.stage.p (bands_in c.args.rows.now) (More c.args.top c.args.stage.p (bands_in c.args.rows.now) (Seen c.args.order.now c.args.stage.next c.loop-k.k) (get_or c.args.order.now c.loop-k.k 0)) in
    let held = ap (λ (d : Band). holds d c.args.stage.p) (sym (c.band_at-band.ensures)) ∙ sym c.holds.ensures in
    elim c.if-not-holds.branch [
      | then-not-holds a ↦ subst best
          (sym (a.far-is ∙ a.better-far.ensures ∙ ap (λ (q : ℕ). better c.loop-k.far q (get_or c.args.order.now c.loop-k.k 0)) (a.run.ensures.1 ∙ ap (λ (d : Band). climb (holds d) (c.args.top - c.args.stage.p) c.args.stage.p) (c.band_at-band.ensures))))
          (taken c.args.top c.args.stage.p (bands_in c.args.rows.now) _ (get_or c.args.order.now c.loop-k.k 0) c.loop-k.far (held ∙ a.if-not-holds.true) c.loop-k.invariant.2)
      | else-not-holds a ↦ subst best (sym a.far-is) (kept c.args.top c.args.stage.p (bands_in c.args.rows.now) _ (get_or c.args.order.now c.loop-k.k 0) c.loop-k.far (held ∙ a.if-not-holds.false) c.loop-k.invariant.2)
    ]

pub band_at-band-requires : goal.band_at-band-requires
band_at-band-requires c = record { i_bound = omega (arith, own (goal.at.band_at-band-requires c).At-loop-k c.loop-k-test.true, (lie (goal.at.band_at-band-requires c).At-loop-k).count); laid = laid (goal.at.band_at-band-requires c).At-loop-k c.loop-k-test.true }

pub returns-then-p-eve : goal.returns-then-p-eve
returns-then-p-eve c =
    (found (goal.at.returns-then-p-eve c).At-loop-k (λ j a h. omega (arith, (in_order (goal.at.returns-then-p-eve c).At-loop-k).rises.rising c.loop-k.k j a h, c.if-p-eve.true, eve-at (goal.at.returns-then-p-eve c).After-eve)), c.loop-k.invariant.1)

pub run-requires : goal.run-requires
run-requires c = (
  subst (Laid _) (sym (read (goal.at.run-requires c).After-band_at-band)) (laid (goal.at.run-requires c).At-loop-k c.loop-k-test.true),
  omega (arith, c.requires.p_le_top),
  sym c.holds.ensures ∙ c.if-not-holds.true,
)

pub loop-k-preserved : goal.loop-k-preserved
loop-k-preserved c = (
  omega arith,
  record { count = omega arith; before = below_more _ c.loop-k.k c.loop-k.invariant.1.before (omega (arith, c.if-p-eve.false, eve-at (goal.at.loop-k-preserved c).After-eve)) },
  seen_more c.args.top c.args.n c.args.stage.p (lying (goal.at.loop-k-preserved c).At-loop-k) c.args.order.now c.args.stage.next c.loop-k.k c.if-not-holds.far
      (omega arith) (best-on (goal.at.loop-k-preserved c).Joined-not-holds),
)

pub returns : goal.returns
returns c =
    (found (goal.at.returns c).At-loop-k (λ j a h. absurd (omega (arith, c.loop-k-test.false))), c.loop-k.invariant.1)
