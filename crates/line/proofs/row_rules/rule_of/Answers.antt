-- `rule_of` meets its contract: `not` and the sense pick the case. Assumes nothing.
use native.Mathlib.Omega.{arith}
use mathlib.Core.Path.{◌≡◌, refl, ap, sym, ◌∙◌}
use mathlib.Core.Bool.{Bool, true, false, false≢true}
use Prim.Native.Nat.{ℕ}
use lib.Dec.{eqb}
use borrow.Author.Tests.{eq-eqb, ne_eqb}
use Rattle.rule.specs.declared.Rule.{Rule}
use Rattle.rule.specs.Meaning.{rule}
use Rattle.line.specs.row_rules.Rules.{rule_at, rule_of, turned}
use Rattle.line.proofs.row_rules.rule_of.Goals as goal

-- a sense that is 0, and one that is not, turned
turns : (r : Rule) → eqb r.sense 0 ≡ true → rule r.form 1 r.c1 r.c2 ≡ turned r
turns r e = rw e

back : (r : Rule) → eqb r.sense 0 ≡ false → rule r.form 0 r.c1 r.c2 ≡ turned r
back r e = rw e

negated : (b : Bool) → b ≡ true → (row n m : ℕ) → rule_of row b n m ≡ turned (rule_at row n m)
unfolding rule_of
negated true e row n m = refl
negated false e row n m = absurd (false≢true e)

pub returns-then-not-negated : goal.returns-then-not-negated
unfolding rule_of
returns-then-not-negated c =
    rw (c.if-not-negated.true) c.rule_at-plain.ensures

pub returns-then-plain-eq0 : goal.returns-then-plain-eq0
returns-then-plain-eq0 c =
    c.rule.ensures
    ∙ turns c.rule_at-plain.result (eq-eqb c.rule_at-plain.result.sense 0 (omega arith))
    ∙ ap turned c.rule_at-plain.ensures
    ∙ sym (negated c.args.negated (c.if-not-negated.false) c.args.row c.args.n c.args.m)

pub returns : goal.returns
returns c =
    c.rule-2.ensures
    ∙ back c.rule_at-plain.result (ne_eqb c.rule_at-plain.result.sense 0 (λ e. omega arith))
    ∙ ap turned c.rule_at-plain.ensures
    ∙ sym (negated c.args.negated (c.if-not-negated.false) c.args.row c.args.n c.args.m)
