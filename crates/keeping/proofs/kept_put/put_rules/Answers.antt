-- `put_rules` meets its contract. The loop's invariant: the rules passed are put, and the other numbers are as they were. Assumes nothing.
use mathlib.Core.Path.{◌≡◌, ap, ◌∙◌}
use mathlib.Core.List.{List}
use Prim.Native.Nat.{ℕ, ◌+◌, ◌*◌, ◌≤◌}
use native.Mathlib.Omega.{arith}
use lib.ListN.{get_or, length, set}
use lib.Seq.{paste, paste-zero}
use Rattle.rule.specs.Meaning.{RULES}
use Rattle.rule.specs.accept.Accept.{no_rule}
use Rattle.keeping.specs.kept_numbers.Numbers.{RULES_AT, flat}
use Rattle.keeping.proofs.kept_numbers.Flat.{flat-length}
use Rattle.keeping.proofs.kept_put.Placed.{put_last, rule_put}
use Rattle.keeping.proofs.kept_put.put_rules.Goals as goal

pub loop-place-init : goal.loop-place-init
loop-place-init c = paste-zero c.args.numbers.now RULES_AT (flat c.args.rules)

pub loop-place-preserved : goal.loop-place-preserved
loop-place-preserved c =
    let r = get_or c.args.rules c.loop-place.place no_rule in
    let at = RULES_AT + 4 * c.loop-place.place in
    ap (λ (x : List ℕ). set (set (set (set x at r.form) (at + 1) r.sense) (at + 2) r.c1) (at + 3) r.c2) c.loop-place.invariant
    ∙ rule_put c.args.numbers.now (omega arith) c.args.rules (omega arith) c.loop-place.place (omega arith)

pub returns : goal.returns
returns c =
    let e : c.loop-place.place ≡ RULES = omega arith in
    let full : length (flat c.args.rules) ≤ 4 * RULES = omega (arith, flat-length c.args.rules) in
    c.loop-place.invariant
    ∙ ap (λ (i : ℕ). paste c.args.numbers.now RULES_AT (flat c.args.rules) (4 * i)) e
    ∙ put_last c.args.numbers.now RULES_AT (flat c.args.rules) (4 * RULES) full (omega arith)
