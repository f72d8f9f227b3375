-- `draw` meets its contract. The loop's invariant: the rows passed are drawn, and the others are as they were. The measure is the rules
-- left. Assumes nothing.
use mathlib.Core.Path.{◌≡◌, refl, sym, ap, ap₂, ◌∙◌}
use mathlib.Core.List.{List, [], map}
use Prim.Native.Nat.{ℕ, ◌-◌}
use native.Mathlib.Numerals.{add-one}
use native.Mathlib.Omega.{arith}
use lib.ListN.{get_or-map, get_or, length-map, set}
use Rattle.rule.specs.declared.Rule.{Rule}
use Rattle.rule.specs.accept.Accept.{no_rule}
use Rattle.rule.specs.declared.band.Band.{Band}
use Rattle.rule.specs.band.route.Band.{band_of}
use Rattle.search.specs.rows.route.Rows.{drawn, drawn_row, row_of, rule_in, rules_in}
use Rattle.search.proofs.rows.Copies.{copied}
use Rattle.search.proofs.rows.Drawn.{drawn_rules}
use Rattle.search.proofs.rows.Reading.{rule_in_lem}
use Rattle.search.proofs.laying.banding.draw.Goals as goal

pub loop-i-init : goal.loop-i-init
unfolding drawn
loop-i-init c = (omega arith, refl)

pub rule_at-rule-requires : goal.rule_at-rule-requires
rule_at-rule-requires c = omega arith

pub put-requires : goal.put-requires
put-requires c = omega arith

pub loop-i-smaller : goal.loop-i-smaller
loop-i-smaller c = omega arith

pub loop-i-preserved : goal.loop-i-preserved
unfolding drawn drawn_row rule_in
loop-i-preserved c =
    let size = length-map c.args.rows.now (drawn_row c.args.width.bits) in
    let read : c.rule_at-rule.result ≡ rule_in (get_or c.args.rows.now c.loop-i.i []) =
    c.rule_at-rule.ensures ∙ ap (λ (rs : List Rule). get_or rs c.loop-i.i no_rule) (ap rules_in c.loop-i.invariant.1 ∙ drawn_rules c.args.width.bits c.loop-i.i c.args.rows.now) ∙ rule_in_lem c.args.rows.now c.loop-i.i in (
      omega arith,
      c.put.ensures
          ∙ ap₂ (λ (r : Rule) (b : Band). set c.loop-i.rows c.loop-i.i (row_of r b)) read (c.of-band.ensures ∙ ap (band_of c.args.width.bits) read)
          ∙ ap₂ (λ (x : List (List ℕ)) (row : List ℕ). set x c.loop-i.i row) c.loop-i.invariant.1 (sym (get_or-map (drawn_row c.args.width.bits) c.args.rows.now c.loop-i.i []))
          ∙ copied (map (drawn_row c.args.width.bits) c.args.rows.now) c.args.rows.now c.loop-i.i (drawn_row c.args.width.bits []) (omega arith) (omega arith)
          ∙ ap (λ (j : ℕ). drawn c.args.width.bits j c.args.rows.now) (sym (add-one c.loop-i.i)),
    )

pub returns : goal.returns
returns c =
    let e : c.loop-i.i ≡ c.args.n = omega arith in
    c.loop-i.invariant.1 ∙ ap (λ (i : ℕ). drawn c.args.width.bits i c.args.rows.now) e
