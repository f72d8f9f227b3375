-- `solve` meets its contract: what the two sweeps find are the first and the last word that pass. Assumes nothing.
use mathlib.Core.Path.{◌≡◌, refl, sym, ap, ap₂, ◌∙◌, subst}
use mathlib.Core.Bool.{Bool, cond}
use mathlib.Core.List.{map}
use Prim.Native.Nat.{ℕ, suc, ◌-◌}
use native.Mathlib.Omega.{arith}
use borrow.Author.Tests.{eq-eqb, ne_eqb}
use lib.Dec.{eqb}
use lib.ListN.{take}
use Rattle.std.specs.Prelude.{Some}
use Rattle.word.specs.Word.{top}
use Rattle.word.specs.Search.{first, last}
use Rattle.word.proofs.Searched.{first_is}
use Rattle.word.proofs.Turn.{back}
use Rattle.rule.specs.band.route.Band.{turned_band}
use Rattle.rule.specs.declared.bits.Fixed.{Fixed}
use Rattle.rule.specs.bits.route.Fixed.{Tidy}
use Rattle.rule.proofs.bits.Turn.{turned_tidy}
use Rattle.search.specs.rows.route.Bands.{all_seen, passes}
use Rattle.search.specs.rows.route.Rows.{bands_in}
use Rattle.search.specs.verdict.Kept.{keeps, verdict_of}
use Rattle.search.specs.verdict.route.OnBands.{kept_by}
use Rattle.search.proofs.verdict.Solved.{largest_is, smallest_is}
use Rattle.search.proofs.verdict.laid.solve.Goals.{After-sweep, After-sweep-2}
use Rattle.search.proofs.verdict.laid.solve.Goals as goal

-- the first sweep finds the smallest word that passes
first_found : (c : After-sweep) → c.sweep.result ≡ first (passes (take c.args.force.count (bands_in c.args.rows.now)) c.args.force.fixed) (suc (top c.args.force.width.bits)) 0
unfolding all_seen
first_found c =
    c.sweep.ensures
    ∙ smallest_is c.args.force.width.bits (take c.args.force.count (bands_in c.args.rows.now)) c.args.force.fixed c.args.words.from c.args.words.to c.requires.ends

-- the second sweep finds the largest
last_found : (c : After-sweep-2) → back (top c.args.force.width.bits) c.sweep-2.result ≡ last (passes (take c.args.force.count (bands_in c.args.rows.now)) c.args.force.fixed) (suc (top c.args.force.width.bits))
unfolding all_seen
last_found c =
    let t = top c.args.force.width.bits in
    ap (back t)
    (c.sweep-2.ensures
    ∙ ap₂ (λ (g : Fixed) (u : ℕ). first (passes (map (turned_band t) (take c.args.force.count (bands_in c.args.rows.now))) g) (suc t - (u - c.args.words.to)) (u - c.args.words.to)) c.turned.ensures c.top-top.ensures)
    ∙ largest_is c.args.force.width.bits (take c.args.force.count (bands_in c.args.rows.now)) c.args.force.fixed c.args.words.from c.args.words.to c.requires.ends c.requires.lie.laid c.requires.tidy.0 c.requires.tidy.1

solved : (c : After-sweep-2) → verdict_of c.sweep.result (back (top c.args.force.width.bits) c.sweep-2.result)
    ≡ kept_by c.args.force.width.bits (take c.args.force.count (bands_in c.args.rows.now)) c.args.force.fixed
unfolding kept_by all_seen
solved c = ap₂ verdict_of (let first_found-1 : c.sweep.result ≡ first (passes (take c.args.force.count (bands_in c.args.rows.now)) c.args.force.fixed) (suc (top c.args.force.width.bits)) 0 = c.sweep.ensures
    ∙ smallest_is c.args.force.width.bits (take c.args.force.count (bands_in c.args.rows.now)) c.args.force.fixed c.args.words.from c.args.words.to c.requires.ends in first_found-1) (last_found c)

-- two words found, where t is what the code has for the top word T
both_found : (a l t T : ℕ) (v : Bool) → t ≡ T → eqb a (t - l) ≡ v → keeps (cond v 1 2) a (t - l) ≡ verdict_of (Some a) (Some (T - l))
unfolding verdict_of
both_found a l t T v e h =
    ap (λ (b : Bool). keeps (cond b 1 2) a (t - l)) (sym h) ∙ ap (λ (n : ℕ). verdict_of (Some a) (Some (n - l))) e

pub sweep-requires : goal.sweep-requires
sweep-requires c = record { width = c.requires.width; start_bound = (c.requires.ends.low_word, c.requires.lie); tidy = c.requires.tidy.0 }

pub returns-in_default : goal.returns-in_default
unfolding kept_by verdict_of
returns-in_default c =
    c.none.ensures ∙ sym (ap₂ verdict_of (sym (first_found (goal.at.returns-in_default c).After-sweep) ∙ c.in_default.is) refl)

pub sweep-requires-2 : goal.sweep-requires-2
sweep-requires-2 c = record { width = c.requires.width; start_bound = (omega (arith, c.top-top.ensures), c.requires.lie); tidy = subst Tidy (sym c.turned.ensures) (turned_tidy _ _ c.requires.tidy.0 c.requires.tidy.1) }

pub returns-in_default-sweep : goal.returns-in_default-sweep
unfolding verdict_of
returns-in_default-sweep c =
    c.none-in_default-sweep.ensures
    ∙ sym (ap₂ verdict_of c.in-Some.is (ap (back _) c.in_default-sweep.is))
    ∙ solved (goal.at.returns-in_default-sweep c).After-sweep-2

pub overflow_sub-largest : goal.overflow_sub-largest
overflow_sub-largest c = omega (arith, (first_is _ _ _ _ (sym c.sweep-2.ensures ∙ c.in-Some-sweep.is)).high)

pub returns-then-smallest-largest : goal.returns-then-smallest-largest
returns-then-smallest-largest c =
    both_found _ _ _ _ _ c.top-top.ensures (eq-eqb _ _ c.if-smallest-largest.true)
    ∙ sym (ap₂ verdict_of c.in-Some.is (ap (back _) c.in-Some-sweep.is))
    ∙ solved (goal.at.returns-then-smallest-largest c).After-sweep-2

pub returns-else-smallest-largest : goal.returns-else-smallest-largest
returns-else-smallest-largest c =
    both_found _ _ _ _ _ c.top-top.ensures (ne_eqb _ _ c.if-smallest-largest.false)
    ∙ sym (ap₂ verdict_of c.in-Some.is (ap (back _) c.in-Some-sweep.is))
    ∙ solved (goal.at.returns-else-smallest-largest c).After-sweep-2
