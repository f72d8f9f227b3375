-- `put_failed` meets its contract. The loop's invariant: the numbers of the rules passed that the word fails stand at the start, and the
-- rest is as it was. Assumes nothing.
use mathlib.Core.Path.{◌≡◌, refl, sym, ap, ◌∙◌}
use Prim.Native.Nat.{◌≤◌, ◌<◌}
use native.Mathlib.Omega.{arith}
use lib.ListN.{drop, get_or, length, length-append, length-drop, take}
use mathlib.Core.List.{List}
use Rattle.std.proofs.lemmas.List.{take_all}
use Rattle.rule.specs.declared.Rule.{Rule}
use Rattle.rule.specs.Meaning.{meets}
use Rattle.rule.specs.accept.Accept.{no_rule}
use Rattle.counting.specs.fitting.Words.{at_start}
use Rattle.listing.specs.failed_rules.Failed.{failed}
use Rattle.listing.proofs.failed_rules.Numbers.{few_failed, lawful_at, met, missed, next_failed}
use Rattle.listing.proofs.failed_rules.put_failed.Goals.{At-loop-number, else-not-meets, then-not-meets}
use Rattle.listing.proofs.failed_rules.put_failed.Goals as goal

-- no more numbers are written than rules were passed
written_few : (l : At-loop-number) → l.loop-number.written ≤ l.loop-number.number
written_few l =
    omega (arith, l.loop-number.invariant.0, few_failed l.args.width.bits l.args.x l.loop-number.number l.args.rules.now)

-- and so there is room for one more
room : (l : At-loop-number) → l.loop-number.number < length l.args.rules.now → l.loop-number.written < length l.loop-number.out
room l h =
    let xs = failed l.args.width.bits l.args.x 0 (take l.loop-number.number l.args.rules.now) in
    omega (arith, written_few l, l.requires.n_in_bounds, ap length l.loop-number.invariant.1, length-append xs (drop (length xs) l.args.out.now), length-drop (length xs) l.args.out.now)

pub loop-number-init : goal.loop-number-init
unfolding failed
loop-number-init c = (refl, refl)

pub meets-requires : goal.meets-requires
meets-requires c =
    let l = lawful_at c.args.width.bits c.args.rules.now c.loop-number.number (omega arith) c.requires.x_bound.2 in record { width = c.requires.width; x_bound = (c.requires.x_bound.0, l.c1_word) }

pub offset_bounds-out-written : goal.offset_bounds-out-written
offset_bounds-out-written c = omega (arith, written_few (goal.at.offset_bounds-out-written c).At-loop-number, c.requires.x_bound.1)

pub bounds-out-written : goal.bounds-out-written
bounds-out-written c = room (goal.at.bounds-out-written c).At-loop-number (omega arith)

pub overflow_add-written : goal.overflow_add-written
overflow_add-written c = omega (arith, written_few (goal.at.overflow_add-written c).At-loop-number, c.requires.x_bound.1)

pub loop-number-preserved : goal.loop-number-preserved
loop-number-preserved c =
    let before = failed c.args.width.bits c.args.x 0 (take c.loop-number.number c.args.rules.now) in
    let more = next_failed c.args.width.bits c.args.x c.loop-number.number c.args.rules.now (omega (arith, c.requires.x_bound.1)) in
    let m = meets c.args.width.bits (get_or c.args.rules.now c.loop-number.number no_rule) c.args.x in
    elim c.if-not-meets.branch [
      | then-not-meets u ↦ let p = missed c.args.out.now before c.loop-number.number m more c.loop-number.invariant.0 c.loop-number.invariant.1 (sym c.meets.ensures ∙ u.if-not-meets.true) (omega (arith, few_failed c.args.width.bits c.args.x c.loop-number.number c.args.rules.now, c.requires.n_in_bounds)) in
          (u.written-is ∙ p.0, u.out-is ∙ p.1)
      | else-not-meets u ↦ let p = met c.args.out.now before c.loop-number.number m more c.loop-number.invariant.0 c.loop-number.invariant.1 (sym c.meets.ensures ∙ u.if-not-meets.false) in
          (u.written-is ∙ p.0, u.out-is ∙ p.1)
    ]

pub shape_of-out : goal.shape_of-out
shape_of-out c =
    let xs = failed c.args.width.bits c.args.x 0 (take c.loop-number.number c.args.rules.now) in
    omega (
      arith,
      written_few (goal.at.shape_of-out c).At-loop-number,
      c.loop-number.invariant.0,
      c.requires.n_in_bounds,
      ap length c.loop-number.invariant.1,
      length-append xs (drop (length xs) c.args.out.now),
      length-drop (length xs) c.args.out.now,
    )

pub returns : goal.returns
returns c =
    let e : take c.loop-number.number c.args.rules.now ≡ c.args.rules.now = take_all c.loop-number.number c.args.rules.now (omega arith) in
    record {
      value = c.loop-number.invariant.0 ∙ ap (λ (rs : List Rule). length (failed c.args.width.bits c.args.x 0 rs)) e;
      out_after = c.loop-number.invariant.1 ∙ ap (λ (rs : List Rule). at_start (failed c.args.width.bits c.args.x 0 rs) c.args.out.now) e;
    }
