-- `words` meets its contract. The loop's invariant: the total is that of the words below p, and the turns so far with those that the
-- bands have left are no more than two a band; so the loop comes to the top word before its turns are used up. Assumes nothing.
use mathlib.Core.Path.{◌≡◌, sym, ap, ◌∙◌, subst}
use mathlib.Core.List.{List}
use Prim.Native.Nat.{ℕ, suc, ◌+◌, ◌*◌, ◌-◌, ◌≤◌}
use native.Mathlib.Numerals.{add-one}
use native.Mathlib.Omega.{arith}
use lib.ListN.{take}
use Rattle.word.specs.Search.{count}
use Rattle.word.specs.Word.{top}
use Rattle.rule.specs.declared.band.Band.{Band}
use Rattle.rule.specs.bits.route.Fixed.{has_bits}
use Rattle.search.specs.rows.route.Bands.{Lie, passes}
use Rattle.search.specs.rows.route.Rows.{bands_in}
use Rattle.search.specs.section.route.Turns.{turns_from}
use Rattle.search.proofs.section.Alike.{Alike, section_alike}
use Rattle.search.proofs.section.Fewer.{few_turns, fewer_turns}
use Rattle.counting.specs.tally.route.Total.{Carries, totals, whole}
use Rattle.counting.proofs.tally.Sections.{failing_section, held_section}
use Rattle.rule.proofs.rank.Pairs.{count_most}
use Rattle.counting.proofs.tally.Sums.{carries_totals, whole-totals}
use Rattle.counting.proofs.tally.words.Goals.{After-at-section, At-loop, Joined-section, else-section, then-section}
use Rattle.counting.proofs.tally.words.Goals as goal

abbrev lying : At-loop → List Band
lying a = bands_in a.args.rows.now

abbrev bands : At-loop → List Band
bands a = take a.args.force.count (lying a)

-- how many pass below a word
abbrev below : At-loop → ℕ → ℕ
below a q = count (passes (bands a) a.args.force.fixed) q 0

lie : (a : At-loop) → Lie a.top-top.result a.args.force.count (lying a)
lie a = subst (λ (t : ℕ). Lie t a.args.force.count (lying a)) (sym a.top-top.ensures) a.requires.lie

alike : (c : After-at-section) → Alike c.top-top.result (take c.args.force.count (bands_in c.args.rows.now)) c.loop.p c.at-section.result
alike c = subst (Alike _ _ _) (sym c.at-section.ensures) (section_alike _ _ _ c.loop.invariant.0)

-- the total of the words up to the section's end
shared : (c : Joined-section) → c.if-section.total ≡ totals (count (passes (take c.args.force.count (bands_in c.args.rows.now)) c.args.force.fixed) (suc c.at-section.result.to) 0)
shared c =
    let more : ℕ = count (has_bits c.args.force.fixed) (suc c.at-section.result.to - c.loop.p) c.loop.p in
    let old : whole c.loop.total ≡ (count (passes (take c.args.force.count (bands_in c.args.rows.now)) c.args.force.fixed) c.loop.p 0) = ap whole c.loop.invariant.1 ∙ whole-totals (count (passes (take c.args.force.count (bands_in c.args.rows.now)) c.args.force.fixed) c.loop.p 0) in
    elim c.if-section.branch [
      | then-section h ↦ let e : whole c.loop.total + more ≡ (count (passes (take c.args.force.count (bands_in c.args.rows.now)) c.args.force.fixed) (suc c.at-section.result.to) 0) = omega (arith, old, held_section (let alike-1 : Alike c.top-top.result (take c.args.force.count (bands_in c.args.rows.now)) c.loop.p c.at-section.result = subst (Alike _ _ _) (sym c.at-section.ensures) (section_alike _ _ _ c.loop.invariant.0) in alike-1) c.args.force.fixed h.if-section.true) in
          h.total-is ∙ h.with-total.ensures ∙ ap totals e
      | else-section h ↦ h.total-is ∙ c.loop.invariant.1 ∙ ap totals (sym (failing_section (let alike-2 : Alike c.top-top.result (take c.args.force.count (bands_in c.args.rows.now)) c.loop.p c.at-section.result = subst (Alike _ _ _) (sym c.at-section.ensures) (section_alike _ _ _ c.loop.invariant.0) in alike-2) c.args.force.fixed h.if-section.false))
    ]

pub top-top-requires : goal.top-top-requires
top-top-requires c = c.requires.width

pub most-most-requires : goal.most-most-requires
most-most-requires c = c.requires.lie.count

pub loop-init : goal.loop-init
unfolding count
loop-init c =
    let lies = subst (λ (t : ℕ). Lie t c.args.force.count (bands_in c.args.rows.now)) (sym c.top-top.ensures) c.requires.lie in
    (omega arith, c.none-total.ensures, few_turns lies 0)

pub at-section-requires : goal.at-section-requires
at-section-requires c = (c.loop.invariant.0, lie (goal.at.at-section-requires c).At-loop)

pub with-total-requires : goal.with-total-requires
with-total-requires c =
    let most = count_most (passes (bands (goal.at.with-total-requires c).At-loop) c.args.force.fixed) c.loop.p 0 in (
      c.requires.tidy,
      (alike (goal.at.with-total-requires c).After-at-section).order,
      subst Carries (sym c.loop.invariant.1) (carries_totals _ (omega arith)),
      omega (arith, whole-totals (below (goal.at.with-total-requires c).At-loop c.loop.p), ap whole c.loop.invariant.1),
    )

pub returns-then-section-top : goal.returns-then-section-top
returns-then-section-top c =
    let e : c.at-section.result.to ≡ top c.args.force.width.bits = c.if-section-top.true ∙ c.top-top.ensures in
    shared (goal.at.returns-then-section-top c).Joined-section ∙ ap (λ (q : ℕ). totals (below (goal.at.returns-then-section-top c).At-loop (suc q))) e

pub overflow_add-p : goal.overflow_add-p
overflow_add-p c = omega (arith, (alike (goal.at.overflow_add-p c).After-at-section).bound)

pub loop-smaller : goal.loop-smaller
loop-smaller c = omega arith

pub loop-preserved : goal.loop-preserved
loop-preserved c =
    let next : c.at-section.result.to + 1 ≡ suc c.at-section.result.to = add-one c.at-section.result.to in
    let less = fewer_turns (bands (goal.at.loop-preserved c).At-loop) c.loop.invariant.0 c.at-section.ensures c.if-section-top.false in (
      omega (arith, (alike (goal.at.loop-preserved c).After-at-section).bound),
      shared (goal.at.loop-preserved c).Joined-section ∙ ap (λ (q : ℕ). totals (below (goal.at.loop-preserved c).At-loop q)) (sym next),
      subst (λ (q : ℕ). c.loop.counter + 1 + turns_from c.top-top.result (bands (goal.at.loop-preserved c).At-loop) q ≤ 2 * c.args.force.count) (sym next) (omega (arith, less, c.loop.invariant.2)),
    )

pub returns : goal.returns
returns c = absurd (omega (arith, c.loop.invariant.2, c.most-most.ensures))
