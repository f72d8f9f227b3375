-- `at` meets its contract. The loop's invariant: what the bands left come to, with the nearest end so far, is the section. The measure
-- is the bands left. Assumes nothing.
use mathlib.Core.Path.{◌≡◌, refl, sym, ap, ◌∙◌, subst}
use mathlib.Core.Bool.{true, false}
use mathlib.Core.List.{List, ◌∷◌}
use Prim.Native.Nat.{ℕ, suc, min, ◌-◌, ◌≤◌, ◌<◌}
use native.Mathlib.Numerals.{add-one}
use native.Mathlib.Omega.{arith}
use lib.ListN.{drop, drop_of_length-le, get_or, length, take}
use lib.Seq.{drop-cons, get_or-take, length-take-le}
use Rattle.word.specs.Search.{climb}
use Rattle.rule.specs.declared.band.Band.{Band}
use Rattle.rule.specs.band.route.Band.{Laid, holds}
use Rattle.search.specs.rows.route.Bands.{blank_band, seen}
use Rattle.search.specs.rows.route.Rows.{bands_in}
use Rattle.search.proofs.rows.Reading.{laid_take}
use Rattle.search.specs.section.route.Section.{section}
use Rattle.search.specs.section.route.Sides.{fails}
use Rattle.search.proofs.section.Scan.{scan, scan_all, scan_fails, scan_held, scan_none}
use Rattle.search.proofs.section.at.Goals.{After-band_at-band, At-loop-i, Else-not-holds, Then-not-holds, else-is_nearer, then-is_nearer}
use Rattle.search.proofs.section.at.Goals as goal

abbrev lying : At-loop-i → List Band
lying a = bands_in a.args.rows.now

abbrev bands : At-loop-i → List Band
bands a = take a.args.n (lying a)

long : (a : At-loop-i) → a.args.n ≤ length (lying a)
long a = omega (arith, a.requires.1.places, a.requires.1.count)

-- the band at i is laid
one_laid : (a : At-loop-i) → a.loop-i.i < a.args.n → Laid a.args.top (get_or (lying a) a.loop-i.i blank_band)
one_laid a h = laid_take _ (lying a) a.args.n a.loop-i.i blank_band h (long a) a.requires.1.laid

plain : (c : After-band_at-band) → c.band_at-band.result ≡ get_or (bands_in c.args.rows.now) c.loop-i.i blank_band
unfolding seen
plain c = c.band_at-band.ensures

read_laid : (c : After-band_at-band) → Laid c.args.top c.band_at-band.result
read_laid c = subst (Laid _) (sym (plain c)) ((let one_laid-2 : c.loop-i.i < c.args.n → Laid c.args.top (get_or (bands_in c.args.rows.now) c.loop-i.i blank_band) = λ h. laid_take _ (bands_in c.args.rows.now) c.args.n c.loop-i.i blank_band h (let long-1 : c.args.n ≤ length (bands_in c.args.rows.now) = omega (arith, c.requires.1.places, c.requires.1.count) in long-1) c.requires.1.laid in one_laid-2) (omega arith))

-- is the next of those that are left
left : (c : After-band_at-band) → drop c.loop-i.i (take c.args.n (bands_in c.args.rows.now)) ≡ c.band_at-band.result ∷ drop (suc c.loop-i.i) (take c.args.n (bands_in c.args.rows.now))
left c =
    drop-cons (take c.args.n (bands_in c.args.rows.now)) c.loop-i.i blank_band (omega (arith, length-take-le c.args.n (bands_in c.args.rows.now) (let long-3 : c.args.n ≤ length (bands_in c.args.rows.now) = omega (arith, c.requires.1.places, c.requires.1.count) in long-3)))
    ∙ ap (λ (b : Band). b ∷ drop (suc c.loop-i.i) (take c.args.n (bands_in c.args.rows.now))) (get_or-take c.args.n (bands_in c.args.rows.now) c.loop-i.i blank_band (omega arith) ∙ sym (plain c))

failed : (c : Then-not-holds) → holds c.band_at-band.result c.args.p ≡ false
failed c = sym c.holds.ensures ∙ c.if-not-holds.true

held : (c : Else-not-holds) → holds c.band_at-band.result c.args.p ≡ true
held c = sym c.holds.ensures ∙ c.if-not-holds.false

pub loop-i-init : goal.loop-i-init
loop-i-init c = (omega arith, omega arith, refl)

pub band_at-band-requires : goal.band_at-band-requires
band_at-band-requires c = record { i_bound = omega (arith, c.requires.1.count); laid = one_laid (goal.at.band_at-band-requires c).At-loop-i (omega arith) }

pub run-requires : goal.run-requires
run-requires c = (read_laid (goal.at.run-requires c).After-band_at-band, c.requires.0, failed (goal.at.run-requires c).Then-not-holds)

pub returns-then-not-holds : goal.returns-then-not-holds
returns-then-not-holds c =
    ap (section false) c.run.ensures.1
    ∙ sym (scan_fails _ _ _ _ _ (failed (goal.at.returns-then-not-holds c).Then-not-holds))
    ∙ ap (λ (bs : List Band). scan c.args.top c.args.p bs c.loop-i.end) (sym (left (goal.at.returns-then-not-holds c).After-band_at-band))
    ∙ c.loop-i.invariant.2
    ∙ scan_all _ _ c.requires.0 (bands (goal.at.returns-then-not-holds c).At-loop-i)

pub last_held-last-requires : goal.last_held-last-requires
last_held-last-requires c = (read_laid (goal.at.last_held-last-requires c).After-band_at-band, c.requires.0, held (goal.at.last_held-last-requires c).Else-not-holds)

pub loop-i-smaller : goal.loop-i-smaller
loop-i-smaller c = omega arith

pub loop-i-preserved : goal.loop-i-preserved
loop-i-preserved c =
    let q : c.if-is_nearer.end ≡ min c.loop-i.end (climb (fails c.band_at-band.result) (c.args.top - c.args.p) c.args.p) =
    elim c.if-is_nearer.branch [ then-is_nearer t ↦ omega (arith, c.last_held-last.ensures) | else-is_nearer t ↦ omega (arith, c.last_held-last.ensures) ] in (
      omega arith,
      omega arith,
      ap (λ (j : ℕ). scan c.args.top c.args.p (drop j (bands (goal.at.loop-i-preserved c).At-loop-i)) c.if-is_nearer.end) (add-one c.loop-i.i)
          ∙ ap (scan c.args.top c.args.p (drop (suc c.loop-i.i) (bands (goal.at.loop-i-preserved c).At-loop-i))) q
          ∙ sym (scan_held _ _ _ _ _ (held (goal.at.loop-i-preserved c).Else-not-holds))
          ∙ ap (λ (bs : List Band). scan c.args.top c.args.p bs c.loop-i.end) (sym (left (goal.at.loop-i-preserved c).After-band_at-band))
          ∙ c.loop-i.invariant.2,
    )

pub returns : goal.returns
returns c =
    sym (scan_none c.args.top c.args.p c.loop-i.end)
    ∙ ap (λ (bs : List Band). scan c.args.top c.args.p bs c.loop-i.end) (sym (drop_of_length-le (bands (goal.at.returns c).At-loop-i) {i = c.loop-i.i} (omega (arith, length-take-le c.args.n (lying (goal.at.returns c).At-loop-i) (long (goal.at.returns c).At-loop-i)))))
    ∙ c.loop-i.invariant.2
    ∙ scan_all _ _ c.requires.0 (bands (goal.at.returns c).At-loop-i)
