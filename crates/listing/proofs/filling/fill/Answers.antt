-- `fill` meets its contract. The loop's invariant: the words below p that pass stand at the start of the buffer, as many as it holds,
-- and the turns so far with those that the bands have left are no more than two a band. Assumes nothing.
use mathlib.Core.Path.{◌≡◌, sym, ap, ◌∙◌, subst}
use mathlib.Core.Bool.{Bool}
use mathlib.Core.List.{List, []}
use Prim.Native.Nat.{ℕ, suc, ◌+◌, ◌*◌, ◌≤◌}
use native.Mathlib.Numerals.{add-one}
use native.Mathlib.Omega.{arith}
use lib.ListN.{length, take}
use lib.Seq.{take-nil}
use Rattle.word.specs.Word.{top}
use Rattle.rule.specs.declared.band.Band.{Band}
use Rattle.search.specs.rows.route.Bands.{Lie, passes}
use Rattle.search.specs.rows.route.Rows.{bands_in}
use Rattle.search.specs.section.route.Turns.{turns_from}
use Rattle.search.proofs.section.Alike.{Alike, section_alike}
use Rattle.search.proofs.section.Fewer.{few_turns, fewer_turns}
use Rattle.counting.specs.fitting.Words.{at_start}
use Rattle.listing.proofs.putting.Words.{passing_none}
use Rattle.listing.proofs.filling.Sections.{section_words_lem, start_length, up_to_fits, up_to_full, up_to_put, up_to}
use Rattle.listing.proofs.filling.fill.Goals.{After-at-section, After-put_section-at, At-loop}
use Rattle.listing.proofs.filling.fill.Goals as goal

abbrev lying : At-loop → List Band
lying a = bands_in a.args.rows.now

abbrev bands : At-loop → List Band
bands a = take a.args.force.count (lying a)

abbrev pass : At-loop → ℕ → Bool
pass a = passes (bands a) a.args.force.fixed

lie : (a : At-loop) → Lie a.top-top.result a.args.force.count (lying a)
lie a = subst (λ (t : ℕ). Lie t a.args.force.count (lying a)) (sym a.top-top.ensures) a.requires.start_bound.1

alike : (c : After-at-section) → Alike c.top-top.result (take c.args.force.count (bands_in c.args.rows.now)) c.loop.p c.at-section.result
alike c = subst (Alike _ _ _) (sym c.at-section.ensures) (section_alike _ _ _ c.loop.invariant.1)

-- the buffer is as long as it was
room : (a : At-loop) → length a.loop.out ≡ length a.args.out.now
room a = ap length a.loop.invariant.3 ∙ start_length a.args.out.now (pass a) a.args.start a.loop.p

-- the words below q that there is room for
abbrev words : At-loop → ℕ → List ℕ
words a = up_to a.args.out.now (pass a) a.args.start

abbrev Written : After-put_section-at → List ℕ → Type 0
Written c xs = (c.put_section-at.result ≡ length xs) × (c.put_section-at.new.out ≡ at_start xs c.args.out.now)

put : (c : After-put_section-at) → Written c ((up_to c.args.out.now (passes (take c.args.force.count (bands_in c.args.rows.now)) c.args.force.fixed) c.args.start) (suc c.at-section.result.to))
put c =
    up_to_put c.args.out.now (passes (take c.args.force.count (bands_in c.args.rows.now)) c.args.force.fixed) c.args.start c.loop.p (suc c.at-section.result.to) _ c.loop.invariant.0 (omega (arith, (let alike-1 : Alike c.top-top.result (take c.args.force.count (bands_in c.args.rows.now)) c.loop.p c.at-section.result = subst (Alike _ _ _) (sym c.at-section.ensures) (section_alike _ _ _ c.loop.invariant.1) in alike-1).order))
    (section_words_lem (let alike-2 : Alike c.top-top.result (take c.args.force.count (bands_in c.args.rows.now)) c.loop.p c.at-section.result = subst (Alike _ _ _) (sym c.at-section.ensures) (section_alike _ _ _ c.loop.invariant.1) in alike-2) c.args.force.fixed) c.loop.invariant.2 c.loop.invariant.3 c.put_section-at.ensures.value c.put_section-at.ensures.out_after

same : (c : After-put_section-at) → length c.put_section-at.new.out ≡ length c.args.out.now
same c =
    ap length (put c).1 ∙ start_length c.args.out.now (passes (take c.args.force.count (bands_in c.args.rows.now)) c.args.force.fixed) c.args.start (suc c.at-section.result.to)

pub top-top-requires : goal.top-top-requires
top-top-requires c = c.requires.width

pub most-most-requires : goal.most-most-requires
most-most-requires c = c.requires.start_bound.1.count

pub loop-init : goal.loop-init
loop-init c =
    let b : List ℕ = c.args.out.now in
    let f : ℕ → Bool = passes (take c.args.force.count (bands_in c.args.rows.now)) c.args.force.fixed in
    let lies = subst (λ (t : ℕ). Lie t c.args.force.count (bands_in c.args.rows.now)) (sym c.top-top.ensures) c.requires.start_bound.1 in
    let none : up_to b f c.args.start c.args.start ≡ [] = ap (take (length b)) (passing_none f c.args.start) ∙ take-nil (length b) in (
      omega arith,
      omega (arith, c.top-top.ensures, c.requires.start_bound.0),
      ap length (sym none),
      ap (λ (xs : List ℕ). at_start xs b) (sym none),
      few_turns lies c.args.start,
    )

pub at-section-requires : goal.at-section-requires
at-section-requires c = (c.loop.invariant.1, lie (goal.at.at-section-requires c).At-loop)

pub put_section-at-requires : goal.put_section-at-requires
put_section-at-requires c = record { width = c.requires.width; p_le_to = ((alike (goal.at.put_section-at-requires c).After-at-section).order, omega (arith, (alike (goal.at.put_section-at-requires c).After-at-section).bound, c.top-top.ensures)); tidy = (c.requires.tidy, omega (arith, room (goal.at.put_section-at-requires c).At-loop, c.loop.invariant.2, up_to_fits c.args.out.now (pass (goal.at.put_section-at-requires c).At-loop) c.args.start c.loop.p)) }

pub shape_of-out-then-section-top : goal.shape_of-out-then-section-top
shape_of-out-then-section-top c = same (goal.at.shape_of-out-then-section-top c).After-put_section-at

pub returns-then-section-top : goal.returns-then-section-top
returns-then-section-top c = let whole = subst (λ (t : ℕ). Written (goal.at.returns-then-section-top c).After-put_section-at (words (goal.at.returns-then-section-top c).At-loop (suc t))) (c.if-section-top.true ∙ c.top-top.ensures) (put (goal.at.returns-then-section-top c).After-put_section-at) in record { value = whole.0; out_after = whole.1 }

pub shape_of-out-then-at-out : goal.shape_of-out-then-at-out
shape_of-out-then-at-out c = same (goal.at.shape_of-out-then-at-out c).After-put_section-at

-- a buffer that is full has all that there is room for
pub returns-then-at-out : goal.returns-then-at-out
returns-then-at-out c = let whole = subst (Written (goal.at.returns-then-at-out c).After-put_section-at)
    (sym
    (up_to_full c.args.out.now (pass (goal.at.returns-then-at-out c).At-loop) c.args.start (suc c.at-section.result.to) (suc (top c.args.force.width.bits))
    (omega (arith, c.loop.invariant.0, (alike (goal.at.returns-then-at-out c).After-at-section).order)) (omega (arith, (alike (goal.at.returns-then-at-out c).After-at-section).bound, c.top-top.ensures)) (sym (put (goal.at.returns-then-at-out c).After-put_section-at).0 ∙ c.if-at-out.true ∙ same (goal.at.returns-then-at-out c).After-put_section-at)))
    (put (goal.at.returns-then-at-out c).After-put_section-at) in record { value = whole.0; out_after = whole.1 }

pub overflow_add-p : goal.overflow_add-p
overflow_add-p c =
    omega (arith, (alike (goal.at.overflow_add-p c).After-at-section).bound, c.if-section-top.false)

pub loop-smaller : goal.loop-smaller
loop-smaller c = omega arith

pub loop-preserved : goal.loop-preserved
loop-preserved c =
    let next = sym (add-one c.at-section.result.to) in
    let less = fewer_turns (bands (goal.at.loop-preserved c).At-loop) c.loop.invariant.1 c.at-section.ensures c.if-section-top.false in (
      omega (arith, c.loop.invariant.0, (alike (goal.at.loop-preserved c).After-at-section).order),
      omega (arith, (alike (goal.at.loop-preserved c).After-at-section).bound, c.if-section-top.false),
      (put (goal.at.loop-preserved c).After-put_section-at).0 ∙ ap (λ (q : ℕ). length (words (goal.at.loop-preserved c).At-loop q)) next,
      (put (goal.at.loop-preserved c).After-put_section-at).1 ∙ ap (λ (q : ℕ). at_start (words (goal.at.loop-preserved c).At-loop q) c.args.out.now) next,
      subst (λ (q : ℕ). c.loop.counter + 1 + turns_from c.top-top.result (bands (goal.at.loop-preserved c).At-loop) q ≤ 2 * c.args.force.count) next (omega (arith, less, c.loop.invariant.4)),
    )

pub shape_of-out : goal.shape_of-out
shape_of-out c = room (goal.at.shape_of-out c).At-loop

pub returns : goal.returns
returns c = absurd (omega (arith, c.loop.invariant.4, c.most-most.ensures))
