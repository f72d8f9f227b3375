-- `bits_of` meets its contract. The loop's invariant: the bits so far are those that the rules passed fix. The measure is the rules
-- left. Assumes nothing.
use mathlib.Core.Path.{◌≡◌, refl, sym, ap, ap₂, ◌∙◌}
use Prim.Native.Nat.{ℕ, ◌-◌}
use native.Mathlib.Numerals.{add-one}
use native.Mathlib.Omega.{arith}
use lib.ListN.{length-map, take}
use Rattle.rule.specs.bits.route.Fixed.{fixed_bits, fixed_from, joined}
use Rattle.rule.proofs.bits.Joined.{fixed_suc}
use Rattle.rule.specs.accept.Accept.{no_rule}
use Rattle.search.specs.rows.route.Rows.{rule_in, rules_in}
use Rattle.search.proofs.laying.banding.bits_of.Goals as goal

pub loop-i-init : goal.loop-i-init
unfolding fixed_bits fixed_from
loop-i-init c = (omega arith, refl)

pub rule_at-rule-requires : goal.rule_at-rule-requires
rule_at-rule-requires c = omega arith

pub loop-i-smaller : goal.loop-i-smaller
loop-i-smaller c = omega arith

pub loop-i-preserved : goal.loop-i-preserved
loop-i-preserved c =
    let rs = rules_in c.args.rows.now in
    let size = length-map c.args.rows.now rule_in in (
      omega arith,
      c.with-fixed.ensures
          ∙ ap₂ joined c.loop-i.invariant.1 c.rule_at-rule.ensures
          ∙ fixed_suc rs c.loop-i.i no_rule (omega arith)
          ∙ ap (λ (j : ℕ). fixed_bits (take j rs)) (sym (add-one c.loop-i.i)),
    )

pub returns : goal.returns
returns c =
    let e : c.loop-i.i ≡ c.args.n = omega arith in
    c.loop-i.invariant.1 ∙ ap (λ (i : ℕ). fixed_bits (take i (rules_in c.args.rows.now))) e
