-- `link_at` meets its contract: each way out is a clause of the definition, and the band that was found fails p, so that it has a run
-- there. Assumes nothing.
use mathlib.Core.Path.{◌≡◌, sym, ap, ap₂, ◌∙◌, subst}
use mathlib.Core.List.{List}
use Prim.Native.Nat.{ℕ}
use native.Mathlib.Omega.{arith}
use lib.ListN.{get_or}
use Rattle.word.specs.Word.{top}
use Rattle.word.specs.Search.{sink}
use Rattle.rule.specs.band.route.Band.{Laid, holds}
use Rattle.rule.specs.declared.band.Band.{Band}
use Rattle.search.specs.rows.route.Bands.{blank_band, seen}
use Rattle.search.specs.rows.route.Rows.{bands_in}
use Rattle.chain.specs.declared.Far.TheVariants.{To}
use Rattle.chain.specs.Links.{link, link_by}
use Rattle.chain.specs.route.OnBands.{gap_on}
use Rattle.chain.specs.link_step.route.Step.{Reached, link_to}
use Rattle.chain.proofs.link_step.link_at.Goals.{After-band_at-band, In-To}
use Rattle.chain.proofs.link_step.link_at.Goals as goal

abbrev lying : In-To → List Band
lying r = bands_in r.args.rows.now

abbrev chosen : In-To → Band
chosen r = get_or (lying r) r.in-To.rule blank_band

fails : (r : In-To) → Reached (top r.args.width.bits) r.args.p (lying r) (To r.in-To.reach r.in-To.rule)
fails r = subst (Reached (top r.args.width.bits) r.args.p (lying r)) r.in-To.is r.requires.reached

laid : (r : In-To) (t : ℕ) → t ≡ top r.args.width.bits → Laid t (chosen r)
laid r t e = subst (λ (u : ℕ). Laid u (chosen r)) (sym e) (fails r).1

read : (c : After-band_at-band) → c.band_at-band.result ≡ (get_or (bands_in c.args.rows.now) c.in-To.rule blank_band)
unfolding seen
read c = c.band_at-band.ensures

pub returns-in_default : goal.returns-in_default
unfolding link_to link_by
returns-in_default c = ap₂ (link_by _ _) c.gap.ensures (sym c.in_default.is)

pub band_at-band-requires : goal.band_at-band-requires
band_at-band-requires c = record { i_bound = omega (arith, (fails (goal.at.band_at-band-requires c).In-To).0); laid = laid (goal.at.band_at-band-requires c).In-To _ c.top-top.ensures }

pub run-run-requires : goal.run-run-requires
run-run-requires c = (
  subst (Laid _) (sym (read (goal.at.run-run-requires c).After-band_at-band)) (laid (goal.at.run-run-requires c).In-To _ c.top-top.ensures),
  omega arith,
  ap (λ (b : Band). holds b c.args.p) (read (goal.at.run-run-requires c).After-band_at-band) ∙ (fails (goal.at.run-run-requires c).In-To).2,
)

pub returns : goal.returns
unfolding link_to link_by
returns c =
    ap (λ (from : ℕ). link from c.in-To.reach c.in-To.rule) (c.run-run.ensures.0 ∙ ap (λ (d : Band). sink (holds d) c.args.p) (read (goal.at.returns c).After-band_at-band))
    ∙ ap (link_by (λ (i : ℕ). sink (holds (get_or (lying (goal.at.returns c).In-To) i blank_band)) c.args.p) c.args.p (gap_on c.args.fixed (top c.args.width.bits) c.args.p)) (sym c.in-To.is)
