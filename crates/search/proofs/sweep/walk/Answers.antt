-- `walk` meets its contract. The outer loop's invariant: no word from the start to p passes. The inner one's: p has the bits and, once all
-- bands are gone through, those looked at hold p; what the looks before that find is no part of it. The measures are the words and the looks
-- left. Assumes nothing.
use mathlib.Core.Path.{◌≡◌, refl, sym, ap, ◌∙◌, subst}
use mathlib.Core.Bool.{Bool, true, false, false≢true}
use mathlib.Core.List.{List}
use Prim.Native.Nat.{ℕ, suc, ◌+◌, ◌-◌, ◌≤◌, ◌<◌}
use native.Mathlib.Numerals.{add-one}
use native.Mathlib.Omega.{arith}
use borrow.Author.Tests.{not-false, not-true}
use lib.ListN.{get_or, length, take}
use lib.Seq.{get_or-take, length-take-le, take_all}
use Rattle.std.specs.Prelude.{Option}
use Rattle.std.specs.Prelude.{Some, None}
use Rattle.word.specs.Word.{top}
use Rattle.word.specs.Search.{climb, first}
use Rattle.word.proofs.Searched.{First, first_is}
use Rattle.rule.specs.declared.band.Band.{Band}
use Rattle.rule.specs.band.route.Band.{Laid, all_hold, holds}
use Rattle.rule.specs.bits.route.Fixed.{has_bits}
use Rattle.search.specs.rows.route.Bands.{all_seen, blank_band, faced, passes, seen}
use Rattle.search.specs.rows.route.Rows.{bands_in}
use Rattle.search.proofs.rows.Reading.{faced_word, laid_take, seen_at, seen-holds, seen_laid, seen_length}
use Rattle.search.specs.leap.route.Leapt.{NoneFrom}
use Rattle.search.proofs.leap.Steps.{found_at, found_none, hold_suc, past_all, past_next, past_run, run_range}
use Rattle.search.specs.declared.sweep.Walked.TheVariants as walked
use Rattle.search.proofs.sweep.Ways.{walks_at, walks_none, walks_tired}
use Rattle.search.proofs.sweep.walk.Invariants.{looks}
use Rattle.search.proofs.sweep.walk.Goals.{After-band_at-band, After-run-reach, At-loop-i, At-words, Then-fails_at}
use Rattle.search.proofs.sweep.walk.Goals as goal

-- the bands that lie in the arrays, and those that are swept
abbrev lying : At-words → List Band
lying o = bands_in o.args.rows.now

abbrev bands : At-words → List Band
bands o = all_seen o.args.turned o.top-top.result (take o.args.force.count (lying o))

long : (o : At-words) → o.args.force.count ≤ length (lying o)
long o = omega (arith, o.requires.start_bound.1.places, o.requires.start_bound.1.count)

count : (o : At-words) → length (bands o) ≡ o.args.force.count
count o = seen_length _ _ (take o.args.force.count (lying o)) ∙ length-take-le o.args.force.count (lying o) (long o)

top_is : (o : At-words) → o.top-top.result ≡ top o.args.force.width.bits
top_is o = o.top-top.ensures

-- p is the next word that has the bits
next_at : (a : At-loop-i) → First (has_bits a.args.force.fixed) (suc (top a.args.force.width.bits) - a.words.p) a.words.p a.in-Some.x
next_at a = first_is _ _ _ _ (sym a.next.ensures ∙ a.in-Some.is)

-- it is a word, and no word from the start to it passes
word : (a : At-loop-i) → (a.words.p ≤ a.loop-i.p) × (a.loop-i.p ≤ a.top-top.result)
word a =
    let f = next_at a in
    (omega (arith, f.low, a.loop-i.invariant.1), omega (arith, f.high, a.loop-i.invariant.1, a.top-top.ensures))

below : (a : At-loop-i) → NoneFrom (all_seen a.args.turned a.top-top.result (take a.args.force.count (bands_in a.args.rows.now))) a.args.force.fixed a.args.start a.loop-i.p
below a =
    subst (NoneFrom (all_seen a.args.turned a.top-top.result (take a.args.force.count (bands_in a.args.rows.now))) a.args.force.fixed a.args.start) (sym a.loop-i.invariant.1)
    (past_next (all_seen a.args.turned a.top-top.result (take a.args.force.count (bands_in a.args.rows.now))) _ _ _ _ _ a.words.invariant.5 (next_at a))

-- the band at i is laid, and is seen as it is swept
abbrev lies : (a : At-loop-i) (h : a.loop-i.i < a.args.force.count) → Band
lies a h = get_or (bands_in a.args.rows.now) a.loop-i.i blank_band

laid : (a : At-loop-i) (h : a.loop-i.i < a.args.force.count) → Laid (top a.args.force.width.bits) (lies a h)
laid a h = laid_take _ (bands_in a.args.rows.now) a.args.force.count a.loop-i.i blank_band h (let long-1 : a.args.force.count ≤ length (bands_in a.args.rows.now) = omega (arith, a.requires.start_bound.1.places, a.requires.start_bound.1.count) in long-1) a.requires.start_bound.1.laid

one_laid : (a : At-loop-i) (h : a.loop-i.i < a.args.force.count) → Laid a.top-top.result (lies a h)
one_laid a h = subst (λ (t : ℕ). Laid t (lies a h)) (sym (a.top-top.ensures)) (laid a h)

swept : (a : At-loop-i) (h : a.loop-i.i < a.args.force.count) → get_or (all_seen a.args.turned a.top-top.result (take a.args.force.count (bands_in a.args.rows.now))) a.loop-i.i blank_band ≡ seen a.args.turned a.top-top.result (lies a h)
swept a h =
    let size = length-take-le a.args.force.count (bands_in a.args.rows.now) (let long-2 : a.args.force.count ≤ length (bands_in a.args.rows.now) = omega (arith, a.requires.start_bound.1.places, a.requires.start_bound.1.count) in long-2) in
    seen_at a.args.turned a.top-top.result (take a.args.force.count (bands_in a.args.rows.now)) a.loop-i.i blank_band (omega (arith, size, h))
    ∙ ap (seen a.args.turned a.top-top.result) (get_or-take a.args.force.count (bands_in a.args.rows.now) a.loop-i.i blank_band h)

-- p is held as the band is seen where it is held, faced, as the band lies
look : (a : At-loop-i) (h : a.loop-i.i < a.args.force.count) → holds (get_or (all_seen a.args.turned a.top-top.result (take a.args.force.count (bands_in a.args.rows.now))) a.loop-i.i blank_band) a.loop-i.p ≡ holds (lies a h) a.facing-q.result
look a h =
    ap (λ (b : Band). holds b a.loop-i.p) (swept a h)
    ∙ seen-holds a.args.turned a.top-top.result (lies a h) a.loop-i.p (one_laid a h) (word a).1
    ∙ ap (λ (x : ℕ). holds (lies a h) (faced a.args.turned a.top-top.result x)) a.loop-i.invariant.1
    ∙ ap (holds (lies a h)) (sym a.facing-q.ensures)

there : (c : Then-fails_at) → c.loop-i.i < c.args.force.count
there c = c.if-i-n.true

-- the band that was read is the one that is swept
read : (c : After-band_at-band) → c.band_at-band.result ≡ get_or (all_seen c.args.turned c.top-top.result (take c.args.force.count (bands_in c.args.rows.now))) c.loop-i.i blank_band
read c = c.band_at-band.ensures ∙ sym ((let swept-12 : (h : c.loop-i.i < c.args.force.count) → get_or (all_seen c.args.turned c.top-top.result (take c.args.force.count (bands_in c.args.rows.now))) c.loop-i.i blank_band ≡ seen c.args.turned c.top-top.result (get_or (bands_in c.args.rows.now) c.loop-i.i blank_band) = λ h. let size = length-take-le c.args.force.count (bands_in c.args.rows.now) (let long-11 : c.args.force.count ≤ length (bands_in c.args.rows.now) = omega (arith, c.requires.start_bound.1.places, c.requires.start_bound.1.count) in long-11) in
    seen_at c.args.turned c.top-top.result (take c.args.force.count (bands_in c.args.rows.now)) c.loop-i.i blank_band (omega (arith, size, h))
    ∙ ap (seen c.args.turned c.top-top.result) (get_or-take c.args.force.count (bands_in c.args.rows.now) c.loop-i.i blank_band h) in swept-12) (c.if-i-n.true))

failed : (c : After-band_at-band) → holds c.band_at-band.result c.loop-i.p ≡ false
failed c = ap (λ (b : Band). holds b c.loop-i.p) (read c) ∙ (let fails-21 : holds (get_or (all_seen c.args.turned c.top-top.result (take c.args.force.count (bands_in c.args.rows.now))) c.loop-i.i blank_band) c.loop-i.p ≡ false = (let look-20 : (h : c.loop-i.i < c.args.force.count) → holds (get_or (all_seen c.args.turned c.top-top.result (take c.args.force.count (bands_in c.args.rows.now))) c.loop-i.i blank_band) c.loop-i.p ≡ holds (get_or (bands_in c.args.rows.now) c.loop-i.i blank_band) c.facing-q.result = λ h. ap (λ (b : Band). holds b c.loop-i.p) ((let swept-14 : (h : c.loop-i.i < c.args.force.count) → get_or (all_seen c.args.turned c.top-top.result (take c.args.force.count (bands_in c.args.rows.now))) c.loop-i.i blank_band ≡ seen c.args.turned c.top-top.result (get_or (bands_in c.args.rows.now) c.loop-i.i blank_band) = λ h. let size = length-take-le c.args.force.count (bands_in c.args.rows.now) (let long-13 : c.args.force.count ≤ length (bands_in c.args.rows.now) = omega (arith, c.requires.start_bound.1.places, c.requires.start_bound.1.count) in long-13) in
    seen_at c.args.turned c.top-top.result (take c.args.force.count (bands_in c.args.rows.now)) c.loop-i.i blank_band (omega (arith, size, h))
    ∙ ap (seen c.args.turned c.top-top.result) (get_or-take c.args.force.count (bands_in c.args.rows.now) c.loop-i.i blank_band h) in swept-14) h)
    ∙ seen-holds c.args.turned c.top-top.result (get_or (bands_in c.args.rows.now) c.loop-i.i blank_band) c.loop-i.p ((let one_laid-17 : (h : c.loop-i.i < c.args.force.count) → Laid c.top-top.result (get_or (bands_in c.args.rows.now) c.loop-i.i blank_band) = λ h. subst (λ (t : ℕ). Laid t (get_or (bands_in c.args.rows.now) c.loop-i.i blank_band)) (sym (c.top-top.ensures)) ((let laid-16 : (h : c.loop-i.i < c.args.force.count) → Laid (top c.args.force.width.bits) (get_or (bands_in c.args.rows.now) c.loop-i.i blank_band) = λ h. laid_take _ (bands_in c.args.rows.now) c.args.force.count c.loop-i.i blank_band h (let long-15 : c.args.force.count ≤ length (bands_in c.args.rows.now) = omega (arith, c.requires.start_bound.1.places, c.requires.start_bound.1.count) in long-15) c.requires.start_bound.1.laid in laid-16) h) in one_laid-17) h) (let word-19 : (c.words.p ≤ c.loop-i.p) × (c.loop-i.p ≤ c.top-top.result) = let f = (let next_at-18 : First (has_bits c.args.force.fixed) (suc (top c.args.force.width.bits) - c.words.p) c.words.p c.in-Some.x = first_is _ _ _ _ (sym c.next.ensures ∙ c.in-Some.is) in next_at-18) in
    (omega (arith, f.low, c.loop-i.invariant.1), omega (arith, f.high, c.loop-i.invariant.1, c.top-top.ensures)) in word-19).1
    ∙ ap (λ (x : ℕ). holds (get_or (bands_in c.args.rows.now) c.loop-i.i blank_band) (faced c.args.turned c.top-top.result x)) c.loop-i.invariant.1
    ∙ ap (holds (get_or (bands_in c.args.rows.now) c.loop-i.i blank_band)) (sym c.facing-q.ensures) in look-20) (c.if-i-n.true) ∙ not-true _ (sym c.fails_at.ensures ∙ c.if-fails_at.true) in fails-21)

ended : (c : After-run-reach) → (c.loop-i.p ≤ c.run-reach.result.to) × (c.run-reach.result.to ≤ c.top-top.result)
ended c = run_range _ _ _ _ (let word-23 : (c.words.p ≤ c.loop-i.p) × (c.loop-i.p ≤ c.top-top.result) = let f = (let next_at-22 : First (has_bits c.args.force.fixed) (suc (top c.args.force.width.bits) - c.words.p) c.words.p c.in-Some.x = first_is _ _ _ _ (sym c.next.ensures ∙ c.in-Some.is) in next_at-22) in
    (omega (arith, f.low, c.loop-i.invariant.1), omega (arith, f.high, c.loop-i.invariant.1, c.top-top.ensures)) in word-23).1 c.run-reach.ensures.1

past : (c : After-run-reach) → NoneFrom (all_seen c.args.turned c.top-top.result (take c.args.force.count (bands_in c.args.rows.now))) c.args.force.fixed
    c.args.start (c.run-reach.result.to + 1)
past c =
    past_run (all_seen c.args.turned c.top-top.result (take c.args.force.count (bands_in c.args.rows.now))) c.args.force.fixed c.args.start c.top-top.result c.loop-i.p _ c.loop-i.i blank_band
    (omega (arith, (let count-25 : length (all_seen c.args.turned c.top-top.result (take c.args.force.count (bands_in c.args.rows.now))) ≡ c.args.force.count = seen_length _ _ (take c.args.force.count (bands_in c.args.rows.now)) ∙ length-take-le c.args.force.count (bands_in c.args.rows.now) (let long-24 : c.args.force.count ≤ length (bands_in c.args.rows.now) = omega (arith, c.requires.start_bound.1.places, c.requires.start_bound.1.count) in long-24) in count-25), c.if-i-n.true)) (let word-27 : (c.words.p ≤ c.loop-i.p) × (c.loop-i.p ≤ c.top-top.result) = let f = (let next_at-26 : First (has_bits c.args.force.fixed) (suc (top c.args.force.width.bits) - c.words.p) c.words.p c.in-Some.x = first_is _ _ _ _ (sym c.next.ensures ∙ c.in-Some.is) in next_at-26) in
    (omega (arith, f.low, c.loop-i.invariant.1), omega (arith, f.high, c.loop-i.invariant.1, c.top-top.ensures)) in word-27).1 (let below-29 : NoneFrom (all_seen c.args.turned c.top-top.result (take c.args.force.count (bands_in c.args.rows.now))) c.args.force.fixed c.args.start c.loop-i.p = subst (NoneFrom (all_seen c.args.turned c.top-top.result (take c.args.force.count (bands_in c.args.rows.now))) c.args.force.fixed c.args.start) (sym c.loop-i.invariant.1)
    (past_next (all_seen c.args.turned c.top-top.result (take c.args.force.count (bands_in c.args.rows.now))) _ _ _ _ _ c.words.invariant.5 (let next_at-28 : First (has_bits c.args.force.fixed) (suc (top c.args.force.width.bits) - c.words.p) c.words.p c.in-Some.x = first_is _ _ _ _ (sym c.next.ensures ∙ c.in-Some.is) in next_at-28)) in below-29) (let fails-38 : holds (get_or (all_seen c.args.turned c.top-top.result (take c.args.force.count (bands_in c.args.rows.now))) c.loop-i.i blank_band) c.loop-i.p ≡ false = (let look-37 : (h : c.loop-i.i < c.args.force.count) → holds (get_or (all_seen c.args.turned c.top-top.result (take c.args.force.count (bands_in c.args.rows.now))) c.loop-i.i blank_band) c.loop-i.p ≡ holds (get_or (bands_in c.args.rows.now) c.loop-i.i blank_band) c.facing-q.result = λ h. ap (λ (b : Band). holds b c.loop-i.p) ((let swept-31 : (h : c.loop-i.i < c.args.force.count) → get_or (all_seen c.args.turned c.top-top.result (take c.args.force.count (bands_in c.args.rows.now))) c.loop-i.i blank_band ≡ seen c.args.turned c.top-top.result (get_or (bands_in c.args.rows.now) c.loop-i.i blank_band) = λ h. let size = length-take-le c.args.force.count (bands_in c.args.rows.now) (let long-30 : c.args.force.count ≤ length (bands_in c.args.rows.now) = omega (arith, c.requires.start_bound.1.places, c.requires.start_bound.1.count) in long-30) in
    seen_at c.args.turned c.top-top.result (take c.args.force.count (bands_in c.args.rows.now)) c.loop-i.i blank_band (omega (arith, size, h))
    ∙ ap (seen c.args.turned c.top-top.result) (get_or-take c.args.force.count (bands_in c.args.rows.now) c.loop-i.i blank_band h) in swept-31) h)
    ∙ seen-holds c.args.turned c.top-top.result (get_or (bands_in c.args.rows.now) c.loop-i.i blank_band) c.loop-i.p ((let one_laid-34 : (h : c.loop-i.i < c.args.force.count) → Laid c.top-top.result (get_or (bands_in c.args.rows.now) c.loop-i.i blank_band) = λ h. subst (λ (t : ℕ). Laid t (get_or (bands_in c.args.rows.now) c.loop-i.i blank_band)) (sym (c.top-top.ensures)) ((let laid-33 : (h : c.loop-i.i < c.args.force.count) → Laid (top c.args.force.width.bits) (get_or (bands_in c.args.rows.now) c.loop-i.i blank_band) = λ h. laid_take _ (bands_in c.args.rows.now) c.args.force.count c.loop-i.i blank_band h (let long-32 : c.args.force.count ≤ length (bands_in c.args.rows.now) = omega (arith, c.requires.start_bound.1.places, c.requires.start_bound.1.count) in long-32) c.requires.start_bound.1.laid in laid-33) h) in one_laid-34) h) (let word-36 : (c.words.p ≤ c.loop-i.p) × (c.loop-i.p ≤ c.top-top.result) = let f = (let next_at-35 : First (has_bits c.args.force.fixed) (suc (top c.args.force.width.bits) - c.words.p) c.words.p c.in-Some.x = first_is _ _ _ _ (sym c.next.ensures ∙ c.in-Some.is) in next_at-35) in
    (omega (arith, f.low, c.loop-i.invariant.1), omega (arith, f.high, c.loop-i.invariant.1, c.top-top.ensures)) in word-36).1
    ∙ ap (λ (x : ℕ). holds (get_or (bands_in c.args.rows.now) c.loop-i.i blank_band) (faced c.args.turned c.top-top.result x)) c.loop-i.invariant.1
    ∙ ap (holds (get_or (bands_in c.args.rows.now) c.loop-i.i blank_band)) (sym c.facing-q.ensures) in look-37) (c.if-i-n.true) ∙ not-true _ (sym c.fails_at.ensures ∙ c.if-fails_at.true) in fails-38)
    (c.run-reach.ensures.1 ∙ ap (λ (b : Band). climb (holds b) (c.top-top.result - c.loop-i.p) c.loop-i.p) (let read-41 : c.band_at-band.result ≡ get_or (all_seen c.args.turned c.top-top.result (take c.args.force.count (bands_in c.args.rows.now))) c.loop-i.i blank_band = c.band_at-band.ensures ∙ sym ((let swept-40 : (h : c.loop-i.i < c.args.force.count) → get_or (all_seen c.args.turned c.top-top.result (take c.args.force.count (bands_in c.args.rows.now))) c.loop-i.i blank_band ≡ seen c.args.turned c.top-top.result (get_or (bands_in c.args.rows.now) c.loop-i.i blank_band) = λ h. let size = length-take-le c.args.force.count (bands_in c.args.rows.now) (let long-39 : c.args.force.count ≤ length (bands_in c.args.rows.now) = omega (arith, c.requires.start_bound.1.places, c.requires.start_bound.1.count) in long-39) in
    seen_at c.args.turned c.top-top.result (take c.args.force.count (bands_in c.args.rows.now)) c.loop-i.i blank_band (omega (arith, size, h))
    ∙ ap (seen c.args.turned c.top-top.result) (get_or-take c.args.force.count (bands_in c.args.rows.now) c.loop-i.i blank_band h) in swept-40) (c.if-i-n.true)) in read-41))

-- one look less is left
fewer : (all : Bool) (n i : ℕ) → i < n → looks all n (i + 1) < looks all n i
unfolding looks
fewer true n i h = omega arith
fewer false n i h = omega arith

-- all of them, after the bands from i on
again : (all : Bool) (n i j : ℕ) → all ≡ false → looks true n j < looks all n i
unfolding looks
again true n i j e = absurd (false≢true (sym e))
again false n i j e = omega arith

-- what is said with the code's top word is said with the width's
abbrev Finds : At-words → Option ℕ → ℕ → Type 0
Finds o r t = r ≡ first (passes (all_seen o.args.turned t (take o.args.force.count (lying o))) o.args.force.fixed) (suc t - o.args.start) o.args.start

started : (o : At-words) → o.args.start ≤ o.top-top.result
started o = omega (arith, o.requires.start_bound.0, top_is o)

pub words-init : goal.words-init
words-init c = (omega (arith, c.fewer-i.ensures), omega arith, omega arith, refl, λ e. e, λ x l h. absurd (omega arith))

pub next-requires : goal.next-requires
next-requires c = record { width = c.requires.width; p_bound = omega (arith, top_is (goal.at.next-requires c).At-words); tidy = c.requires.tidy }

pub facing-q-requires : goal.facing-q-requires
facing-q-requires c =
    let f = first_is _ _ _ _ (sym c.next.ensures ∙ c.in-Some.is) in
    omega (arith, f.high, top_is (goal.at.facing-q-requires c).At-words)

pub loop-i-init : goal.loop-i-init
loop-i-init c = (c.words.invariant.0, refl, refl, c.words.invariant.4, λ e. absurd (false≢true e))

pub fails_at-requires : goal.fails_at-requires
fails_at-requires c =
    let q = faced_word c.args.turned c.top-top.result c.in-Some.x (omega (arith, (word (goal.at.fails_at-requires c).At-loop-i).1, c.loop-i.invariant.1)) in record { i_bound = (omega (arith, c.requires.start_bound.1.count), c.requires.width); laid = (laid (goal.at.fails_at-requires c).At-loop-i c.if-i-n.true, omega (arith, q, (word (goal.at.fails_at-requires c).At-loop-i).1, top_is (goal.at.fails_at-requires c).At-words, c.facing-q.ensures)) }

pub band_at-band-requires : goal.band_at-band-requires
band_at-band-requires c = record { i_bound = omega (arith, c.requires.start_bound.1.count, there (goal.at.band_at-band-requires c).Then-fails_at); laid = one_laid (goal.at.band_at-band-requires c).At-loop-i (there (goal.at.band_at-band-requires c).Then-fails_at) }

pub run-reach-requires : goal.run-reach-requires
run-reach-requires c = (
  subst (Laid _) (sym c.band_at-band.ensures) (seen_laid _ _ _ (one_laid (goal.at.run-reach-requires c).At-loop-i (there (goal.at.run-reach-requires c).Then-fails_at))),
  (word (goal.at.run-reach-requires c).At-loop-i).1,
  failed (goal.at.run-reach-requires c).After-band_at-band,
)

pub overflow_add-p : goal.overflow_add-p
overflow_add-p c = omega (arith, ended (goal.at.overflow_add-p c).After-run-reach)

pub words-smaller : goal.words-smaller
words-smaller c =
    omega (arith, ended (goal.at.words-smaller c).After-run-reach, word (goal.at.words-smaller c).At-loop-i)

pub words-preserved : goal.words-preserved
words-preserved c = (
  omega (arith, c.loop-i.invariant.0, c.fewer-i-then-fails_at.ensures),
  omega (arith, ended (goal.at.words-preserved c).After-run-reach, c.words.invariant.1, word (goal.at.words-preserved c).At-loop-i),
  omega (arith, ended (goal.at.words-preserved c).After-run-reach),
  c.loop-i.invariant.2 ∙ c.words.invariant.3,
  c.loop-i.invariant.3,
  past (goal.at.words-preserved c).After-run-reach,
)

pub loop-i-smaller-then-i-n : goal.loop-i-smaller-then-i-n
loop-i-smaller-then-i-n c = fewer c.loop-i.all _ _ c.if-i-n.true

pub loop-i-preserved-then-i-n : goal.loop-i-preserved-then-i-n
loop-i-preserved-then-i-n c = (
  omega (arith, c.if-i-n.true),
  c.loop-i.invariant.1,
  c.loop-i.invariant.2,
  c.loop-i.invariant.3,
  λ e. subst (λ (j : ℕ). all_hold (take j (bands (goal.at.loop-i-preserved-then-i-n c).At-words)) c.loop-i.p ≡ true) (sym (add-one c.loop-i.i))
      (hold_suc (bands (goal.at.loop-i-preserved-then-i-n c).At-words) c.loop-i.i blank_band c.loop-i.p (omega (arith, count (goal.at.loop-i-preserved-then-i-n c).At-words, c.if-i-n.true)) (c.loop-i.invariant.4 e)
      (look (goal.at.loop-i-preserved-then-i-n c).At-loop-i c.if-i-n.true ∙ not-false _ (sym c.fails_at.ensures ∙ c.if-fails_at.false))),
)

pub loop-i-smaller : goal.loop-i-smaller
loop-i-smaller c = again c.loop-i.all _ _ _ c.if-all.false

pub loop-i-preserved : goal.loop-i-preserved
unfolding all_hold
loop-i-preserved c =
    (omega arith, c.loop-i.invariant.1, c.loop-i.invariant.2, λ e. omega (arith, c.fewer-left.ensures, c.loop-i.invariant.3 e), λ e. refl)

pub returns-in_default : goal.returns-in_default
returns-in_default c =
    walks_none _ _ _ _ _ _ c.words.invariant.3
    (subst (Finds (goal.at.returns-in_default c).At-words None) (top_is (goal.at.returns-in_default c).At-words)
    (found_none (bands (goal.at.returns-in_default c).At-words) _ _ _ (started (goal.at.returns-in_default c).At-words)
    (past_all (bands (goal.at.returns-in_default c).At-words) _ _ _ _ c.words.invariant.2 c.words.invariant.5
    (subst (λ (t : ℕ). first (has_bits c.args.force.fixed) (suc t - c.words.p) c.words.p ≡ None) (sym (top_is (goal.at.returns-in_default c).At-words))
    (sym c.next.ensures ∙ c.in_default.is)))))

pub returns-then-reach-top : goal.returns-then-reach-top
returns-then-reach-top c =
    let e : c.run-reach.result.to + 1 ≡ suc c.top-top.result = omega arith in
    walks_none _ _ _ _ _ _ (c.loop-i.invariant.2 ∙ c.words.invariant.3)
    (subst (Finds (goal.at.returns-then-reach-top c).At-words None) (top_is (goal.at.returns-then-reach-top c).At-words) (found_none (bands (goal.at.returns-then-reach-top c).At-words) _ _ _ (started (goal.at.returns-then-reach-top c).At-words) (subst (NoneFrom (bands (goal.at.returns-then-reach-top c).At-words) _ _) e (past (goal.at.returns-then-reach-top c).After-run-reach))))

pub returns-then-all : goal.returns-then-all
returns-then-all c =
    let full : c.loop-i.i ≡ c.args.force.count = omega (arith, c.loop-i.invariant.0, c.if-i-n.false) in
    walks_at _ _ _ _ _ c.loop-i.p
    (subst (Finds (goal.at.returns-then-all c).At-words (Some c.loop-i.p)) (top_is (goal.at.returns-then-all c).At-words)
    (found_at (bands (goal.at.returns-then-all c).At-words) _ _ _ _ (omega (arith, c.words.invariant.1, word (goal.at.returns-then-all c).At-loop-i)) (word (goal.at.returns-then-all c).At-loop-i).1 (below (goal.at.returns-then-all c).At-loop-i)
    (subst (λ (bs : List Band). all_hold bs c.loop-i.p ≡ true) (take_all c.loop-i.i (bands (goal.at.returns-then-all c).At-words) (omega (arith, count (goal.at.returns-then-all c).At-words))) (c.loop-i.invariant.4 c.if-all.true))
    (subst (λ (x : ℕ). has_bits c.args.force.fixed x ≡ true) (sym c.loop-i.invariant.1) (next_at (goal.at.returns-then-all c).At-loop-i).passes)))

pub returns-then-left-eq1 : goal.returns-then-left-eq1
returns-then-left-eq1 c =
    walks_tired _ _ _ _ _ c.loop-i.p (omega (arith, c.words.invariant.1, word (goal.at.returns-then-left-eq1 c).At-loop-i)) (omega (arith, (word (goal.at.returns-then-left-eq1 c).At-loop-i).1, top_is (goal.at.returns-then-left-eq1 c).At-words))
    (subst (λ (t : ℕ). NoneFrom (all_seen c.args.turned t (take c.args.force.count (lying (goal.at.returns-then-left-eq1 c).At-words))) c.args.force.fixed c.args.start c.loop-i.p) (top_is (goal.at.returns-then-left-eq1 c).At-words) (below (goal.at.returns-then-left-eq1 c).At-loop-i))
    (λ e. let l = c.loop-i.invariant.3 e in omega (arith, c.if-left-eq1.true))
