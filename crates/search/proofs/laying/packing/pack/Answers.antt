-- `pack` meets its contract. The loop's invariant: the rules passed are packed, and the other places are as they were. Assumes nothing.
use mathlib.Core.Path.{◌≡◌, refl, sym, ap, ap₂, ◌∙◌}
use mathlib.Core.List.{List, ◌++◌}
use Prim.Native.Nat.{ℕ, ◌-◌}
use native.Mathlib.Numerals.{add-one}
use native.Mathlib.Omega.{arith}
use lib.ListN.{drop, length, length-map, length-replicate, replicate, set, take}
use Rattle.rule.specs.declared.Rule.{Rule}
use Rattle.rule.specs.Meaning.{RULES}
use Rattle.rule.specs.accept.Accept.{no_rule}
use Rattle.search.specs.rows.route.Rows.{rule_in, rules_in}
use Rattle.search.proofs.rows.Copies.{all_copied, copied}
use Rattle.search.proofs.laying.packing.pack.Goals as goal

pub loop-i-init : goal.loop-i-init
loop-i-init c = (omega arith, refl)

pub rule_at-requires : goal.rule_at-requires
rule_at-requires c = omega arith

pub loop-i-smaller : goal.loop-i-smaller
loop-i-smaller c = omega arith

pub loop-i-preserved : goal.loop-i-preserved
loop-i-preserved c =
    let rs = rules_in c.args.rows.now in
    let h : length rs ≡ RULES = length-map c.args.rows.now rule_in ∙ c.requires in (
      omega arith,
      ap₂ (λ (x : List Rule) (r : Rule). set x c.loop-i.i r) c.loop-i.invariant.1 c.rule_at.ensures
          ∙ copied rs (replicate RULES no_rule) c.loop-i.i no_rule (omega arith) (omega (arith, length-replicate RULES no_rule))
          ∙ ap (λ (j : ℕ). take j rs ++ drop j (replicate RULES no_rule)) (sym (add-one c.loop-i.i)),
    )

pub returns : goal.returns
returns c =
    let h : length (rules_in c.args.rows.now) ≡ RULES = length-map c.args.rows.now rule_in ∙ c.requires in
    c.loop-i.invariant.1 ∙ all_copied (rules_in c.args.rows.now) (replicate RULES no_rule) c.loop-i.i (omega arith) (omega (arith, length-replicate RULES no_rule))
