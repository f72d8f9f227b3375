-- `past` meets its contract: no word is passed that has the bits and that the band holds. Assumes nothing.
use mathlib.Core.Path.{◌≡◌, sym, ap, ◌∙◌, subst}
use mathlib.Core.Bool.{false}
use mathlib.Core.List.{List}
use Prim.Native.Nat.{ℕ, suc, ◌+◌, ◌-◌, ◌≤◌, ◌<◌}
use native.Mathlib.Omega.{arith}
use lib.ListN.{get_or, length, take}
use lib.Seq.{get_or-take, length-take-le}
use Rattle.word.specs.Word.{top}
use Rattle.word.specs.Search.{climb}
use Rattle.word.proofs.Searched.{First, first_is}
use Rattle.rule.specs.declared.band.Band.{Band}
use Rattle.rule.specs.band.route.Band.{Laid, holds}
use Rattle.rule.specs.bits.route.Fixed.{has_bits}
use Rattle.search.specs.rows.route.Bands.{all_seen, blank_band, seen}
use Rattle.search.specs.rows.route.Rows.{bands_in}
use Rattle.search.proofs.rows.Reading.{laid_take, seen_at, seen_laid, seen_length}
use Rattle.search.specs.leap.route.Leapt.{NoneFrom}
use Rattle.search.proofs.leap.Steps.{leapt_out, leapt_to, past_all, past_next, past_run, run_range}
use Rattle.search.proofs.leap.past.Goals.{After-run-reach, Else-holds, In-Some, Start}
use Rattle.search.proofs.leap.past.Goals as goal

-- the top word, the bands that lie in the rows, and those that are looked at
abbrev tops : Start → ℕ
tops s = top s.args.force.width.bits

abbrev lying : Start → List Band
lying s = bands_in s.args.rows.now

abbrev bands : Start → List Band
bands s = all_seen s.args.turned (tops s) (take s.args.force.count (lying s))

none : (s : Start) → NoneFrom (bands s) s.args.force.fixed s.args.p s.args.p
none s x a b = absurd (omega arith)

next_at : (a : In-Some) → First (has_bits a.args.force.fixed) (suc (top a.args.force.width.bits) - a.args.p) a.args.p a.in-Some.x
next_at a = first_is _ _ _ _ (sym a.next.ensures ∙ a.in-Some.is)

is_word : (a : In-Some) → (a.args.p ≤ a.in-Some.x) × (a.in-Some.x ≤ (top a.args.force.width.bits))
is_word a = let f = next_at a in (f.low, omega (arith, f.high, a.requires.p_bound.0))

below : (a : In-Some) → NoneFrom (all_seen a.args.turned (top a.args.force.width.bits) (take a.args.force.count (bands_in a.args.rows.now))) a.args.force.fixed a.args.p a.in-Some.x
below a = past_next (all_seen a.args.turned (top a.args.force.width.bits) (take a.args.force.count (bands_in a.args.rows.now))) _ _ _ _ _ (let none-1 : NoneFrom (all_seen a.args.turned (top a.args.force.width.bits) (take a.args.force.count (bands_in a.args.rows.now))) a.args.force.fixed a.args.p a.args.p = λ x a' b. absurd (omega arith) in none-1) (next_at a)

-- the band of the number is one of those in force, and is laid
own : (a : In-Some) → a.args.number < a.args.force.count
own a = omega (arith, a.if-force-number.false)

top_is : (a : In-Some) → a.top-top.result ≡ (top a.args.force.width.bits)
top_is a = a.top-top.ensures

one_laid : (a : In-Some) → Laid a.top-top.result (get_or (bands_in a.args.rows.now) a.args.number blank_band)
one_laid a =
    subst (λ (t : ℕ). Laid t (get_or (bands_in a.args.rows.now) a.args.number blank_band)) (sym (top_is a))
    (laid_take _ (bands_in a.args.rows.now) a.args.force.count a.args.number blank_band (own a) (let long-2 : a.args.force.count ≤ length (bands_in a.args.rows.now) = omega (arith, a.requires.p_bound.1.places, a.requires.p_bound.1.count) in long-2) a.requires.p_bound.1.laid)

failed : (c : Else-holds) → holds c.band_at-band.result c.in-Some.x ≡ false
failed c = sym c.holds.ensures ∙ c.if-holds.false

ended : (r : After-run-reach) → (r.in-Some.x ≤ r.run-reach.result.to) × (r.run-reach.result.to ≤ (top r.args.force.width.bits))
ended r =
    run_range r.band_at-band.result (top r.args.force.width.bits) r.in-Some.x _ (let is_word-7 : (r.args.p ≤ r.in-Some.x) × (r.in-Some.x ≤ (top r.args.force.width.bits)) = let f = (let next_at-6 : First (has_bits r.args.force.fixed) (suc (top r.args.force.width.bits) - r.args.p) r.args.p r.in-Some.x = first_is _ _ _ _ (sym r.next.ensures ∙ r.in-Some.is) in next_at-6) in (f.low, omega (arith, f.high, r.requires.p_bound.0)) in is_word-7).1
    (r.run-reach.ensures.1 ∙ ap (λ (t : ℕ). climb (holds r.band_at-band.result) (t - r.in-Some.x) r.in-Some.x) (r.top-top.ensures))

passed : (r : After-run-reach) → NoneFrom (all_seen r.args.turned (top r.args.force.width.bits) (take r.args.force.count (bands_in r.args.rows.now))) r.args.force.fixed r.args.p (r.run-reach.result.to + 1)
passed r =
    let same = (let read-11 : r.band_at-band.result ≡ get_or (all_seen r.args.turned (top r.args.force.width.bits) (take r.args.force.count (bands_in r.args.rows.now))) r.args.number blank_band = let size = length-take-le r.args.force.count (bands_in r.args.rows.now) (let long-8 : r.args.force.count ≤ length (bands_in r.args.rows.now) = omega (arith, r.requires.p_bound.1.places, r.requires.p_bound.1.count) in long-8) in
    r.band_at-band.ensures
    ∙ ap (λ (t : ℕ). seen r.args.turned t (get_or (bands_in r.args.rows.now) r.args.number blank_band)) (r.top-top.ensures)
    ∙ ap (seen r.args.turned (top r.args.force.width.bits)) (sym (get_or-take r.args.force.count (bands_in r.args.rows.now) r.args.number blank_band (let own-9 : r.args.number < r.args.force.count = omega (arith, r.if-force-number.false) in own-9)))
    ∙ sym (seen_at r.args.turned (top r.args.force.width.bits) (take r.args.force.count (bands_in r.args.rows.now)) r.args.number blank_band (omega (arith, size, (let own-10 : r.args.number < r.args.force.count = omega (arith, r.if-force-number.false) in own-10)))) in read-11) in
    past_run (all_seen r.args.turned (top r.args.force.width.bits) (take r.args.force.count (bands_in r.args.rows.now))) r.args.force.fixed r.args.p (top r.args.force.width.bits) r.in-Some.x _ r.args.number blank_band
    (omega (arith, (let count-13 : length (all_seen r.args.turned (top r.args.force.width.bits) (take r.args.force.count (bands_in r.args.rows.now))) ≡ r.args.force.count = seen_length _ _ (take r.args.force.count (bands_in r.args.rows.now)) ∙ length-take-le r.args.force.count (bands_in r.args.rows.now) (let long-12 : r.args.force.count ≤ length (bands_in r.args.rows.now) = omega (arith, r.requires.p_bound.1.places, r.requires.p_bound.1.count) in long-12) in count-13), (let own-14 : r.args.number < r.args.force.count = omega (arith, r.if-force-number.false) in own-14))) (let is_word-16 : (r.args.p ≤ r.in-Some.x) × (r.in-Some.x ≤ (top r.args.force.width.bits)) = let f = (let next_at-15 : First (has_bits r.args.force.fixed) (suc (top r.args.force.width.bits) - r.args.p) r.args.p r.in-Some.x = first_is _ _ _ _ (sym r.next.ensures ∙ r.in-Some.is) in next_at-15) in (f.low, omega (arith, f.high, r.requires.p_bound.0)) in is_word-16).1 (let below-19 : NoneFrom (all_seen r.args.turned (top r.args.force.width.bits) (take r.args.force.count (bands_in r.args.rows.now))) r.args.force.fixed r.args.p r.in-Some.x = past_next (all_seen r.args.turned (top r.args.force.width.bits) (take r.args.force.count (bands_in r.args.rows.now))) _ _ _ _ _ (let none-17 : NoneFrom (all_seen r.args.turned (top r.args.force.width.bits) (take r.args.force.count (bands_in r.args.rows.now))) r.args.force.fixed r.args.p r.args.p = λ x a b. absurd (omega arith) in none-17) (let next_at-18 : First (has_bits r.args.force.fixed) (suc (top r.args.force.width.bits) - r.args.p) r.args.p r.in-Some.x = first_is _ _ _ _ (sym r.next.ensures ∙ r.in-Some.is) in next_at-18) in below-19) (subst (λ (b : Band). holds b r.in-Some.x ≡ false) same (let failed-20 : holds r.band_at-band.result r.in-Some.x ≡ false = sym r.holds.ensures ∙ r.if-holds.false in failed-20))
    (r.run-reach.ensures.1
    ∙ ap (λ (t : ℕ). climb (holds r.band_at-band.result) (t - r.in-Some.x) r.in-Some.x) (r.top-top.ensures)
    ∙ ap (λ (b : Band). climb (holds b) ((top r.args.force.width.bits) - r.in-Some.x) r.in-Some.x) same)

pub returns-then-force-number : goal.returns-then-force-number
returns-then-force-number c =
    leapt_to (bands (goal.at.returns-then-force-number c).Start) _ _ _ c.args.p (omega arith) c.requires.p_bound.0 (none (goal.at.returns-then-force-number c).Start)

pub returns-in_default : goal.returns-in_default
returns-in_default c =
    leapt_out (bands (goal.at.returns-in_default c).Start) _ _ _ (past_all (bands (goal.at.returns-in_default c).Start) _ _ _ _ c.requires.p_bound.0 (none (goal.at.returns-in_default c).Start) (sym c.next.ensures ∙ c.in_default.is))

pub band_at-band-requires : goal.band_at-band-requires
band_at-band-requires c = record { i_bound = omega (arith, own (goal.at.band_at-band-requires c).In-Some, c.requires.p_bound.1.count); laid = one_laid (goal.at.band_at-band-requires c).In-Some }

pub returns-then-holds : goal.returns-then-holds
returns-then-holds c =
    leapt_to (bands (goal.at.returns-then-holds c).Start) _ _ _ c.in-Some.x (is_word (goal.at.returns-then-holds c).In-Some).0 (is_word (goal.at.returns-then-holds c).In-Some).1 (below (goal.at.returns-then-holds c).In-Some)

pub run-reach-requires : goal.run-reach-requires
run-reach-requires c = (
  subst (Laid _) (sym c.band_at-band.ensures) (seen_laid _ _ _ (one_laid (goal.at.run-reach-requires c).In-Some)),
  omega (arith, (is_word (goal.at.run-reach-requires c).In-Some).1, top_is (goal.at.run-reach-requires c).In-Some),
  failed (goal.at.run-reach-requires c).Else-holds,
)

pub returns-then-reach-top : goal.returns-then-reach-top
returns-then-reach-top c =
    let e : c.run-reach.result.to + 1 ≡ suc (tops (goal.at.returns-then-reach-top c).Start) = omega (arith, top_is (goal.at.returns-then-reach-top c).In-Some) in
    leapt_out (bands (goal.at.returns-then-reach-top c).Start) _ _ _ (subst (NoneFrom (bands (goal.at.returns-then-reach-top c).Start) _ _) e (passed (goal.at.returns-then-reach-top c).After-run-reach))

pub overflow_add-result : goal.overflow_add-result
overflow_add-result c = omega (arith, ended (goal.at.overflow_add-result c).After-run-reach, top_is (goal.at.overflow_add-result c).In-Some)

pub returns : goal.returns
returns c =
    leapt_to (bands (goal.at.returns c).Start) _ _ _ _ (omega (arith, ended (goal.at.returns c).After-run-reach, (is_word (goal.at.returns c).In-Some).0)) (omega (arith, ended (goal.at.returns c).After-run-reach, top_is (goal.at.returns c).In-Some)) (passed (goal.at.returns c).After-run-reach)
