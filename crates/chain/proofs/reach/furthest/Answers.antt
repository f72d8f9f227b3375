-- `furthest` meets its contract. The loop's invariant: the furthest so far is that of the bands passed. The measure is the
-- bands left. Assumes nothing.
use mathlib.Core.Path.{◌≡◌, refl, sym, ap, ap₂, ◌∙◌, subst}
use mathlib.Core.List.{List}
use Prim.Native.Nat.{ℕ, ◌-◌, ◌<◌}
use native.Mathlib.Numerals.{add-one}
use native.Mathlib.Omega.{arith}
use lib.ListN.{get_or, length, take}
use Rattle.rule.specs.band.route.Band.{Laid}
use Rattle.rule.specs.declared.band.Band.{Band}
use Rattle.search.proofs.rows.Reading.{laid_take}
use Rattle.search.specs.rows.route.Bands.{blank_band, seen}
use Rattle.chain.specs.declared.Far.{Far}
use Rattle.chain.specs.Links.{further}
use Rattle.chain.specs.route.OnBands.{further_band, furthest_band, furthest_band_of}
use Rattle.chain.proofs.OnBands.{far_kept, far_new, furthest_suc}
use Rattle.search.specs.rows.route.Rows.{bands_in}
use Rattle.rule.specs.Meaning.{RULES}
use Rattle.chain.proofs.reach.furthest.Goals.{After-band_at-band, At-loop-i, else-not-holds, then-not-holds}
use Rattle.chain.proofs.reach.furthest.Goals as goal

-- the bands that lie in the rows
abbrev lying : At-loop-i → List Band
lying l = bands_in l.args.rows.now

long : (l : At-loop-i) → length (lying l) ≡ RULES
long l = l.requires.lie.places

one_laid : (l : At-loop-i) → l.loop-i.i < l.args.n → Laid l.top-top.result (get_or (lying l) l.loop-i.i blank_band)
one_laid l h =
    subst (λ (t : ℕ). Laid t (get_or (lying l) l.loop-i.i blank_band)) (sym l.top-top.ensures)
    (laid_take _ (lying l) l.args.n l.loop-i.i blank_band h (omega (arith, long l, l.requires.lie.count)) l.requires.lie.laid)

read : (c : After-band_at-band) → c.band_at-band.result ≡ get_or (bands_in c.args.rows.now) c.loop-i.i blank_band
unfolding seen
read c = c.band_at-band.ensures

pub loop-i-init : goal.loop-i-init
unfolding furthest_band furthest_band_of
loop-i-init c = (omega arith, refl)

pub band_at-band-requires : goal.band_at-band-requires
band_at-band-requires c =
    let h : c.loop-i.i < c.args.n = omega arith in record { i_bound = omega arith; laid = one_laid (goal.at.band_at-band-requires c).At-loop-i h }

pub run-requires : goal.run-requires
run-requires c =
    let h : c.loop-i.i < c.args.n = omega arith in (
      subst (Laid _) (sym (read (goal.at.run-requires c).After-band_at-band)) (one_laid (goal.at.run-requires c).At-loop-i h),
      omega arith,
      sym c.holds.ensures ∙ c.if-not-holds.true,
    )

pub loop-i-preserved : goal.loop-i-preserved
loop-i-preserved c =
    let there : c.loop-i.i < length (lying (goal.at.loop-i-preserved c).At-loop-i) = omega (arith, long (goal.at.loop-i-preserved c).At-loop-i, c.requires.lie.count) in (
      omega arith,
      elim c.if-not-holds.branch [
        | then-not-holds a ↦ a.far-is
            ∙ a.further-far.ensures
            ∙ ap₂ (λ (f : Far) (q : ℕ). further f q c.loop-i.i) c.loop-i.invariant.1 a.run.ensures.1
            ∙ sym (far_new c.top-top.result _ _ c.loop-i.i c.band_at-band.result (sym c.holds.ensures ∙ a.if-not-holds.true))
        | else-not-holds a ↦ a.far-is
            ∙ c.loop-i.invariant.1
            ∙ sym (far_kept c.top-top.result _ _ c.loop-i.i c.band_at-band.result (sym c.holds.ensures ∙ a.if-not-holds.false))
      ]
          ∙ ap (further_band c.top-top.result c.args.p (furthest_band (take c.loop-i.i (lying (goal.at.loop-i-preserved c).At-loop-i)) c.top-top.result c.args.p) c.loop-i.i) (read (goal.at.loop-i-preserved c).After-band_at-band)
          ∙ sym (furthest_suc c.top-top.result c.args.p (lying (goal.at.loop-i-preserved c).At-loop-i) c.loop-i.i blank_band there)
          ∙ ap (λ (j : ℕ). furthest_band (take j (lying (goal.at.loop-i-preserved c).At-loop-i)) c.top-top.result c.args.p) (sym (add-one c.loop-i.i)),
    )

pub returns : goal.returns
returns c =
    let e : c.loop-i.i ≡ c.args.n = omega arith in
    c.loop-i.invariant.1 ∙ ap₂ (λ (i t : ℕ). furthest_band (take i (lying (goal.at.returns c).At-loop-i)) t c.args.p) e c.top-top.ensures
