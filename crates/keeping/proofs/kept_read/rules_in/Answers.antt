-- `rules_in` meets its contract. The loop's invariant: the rules passed are read, and the other places are as they were. Assumes nothing.
use mathlib.Core.Path.{◌≡◌, sym, ap, ap₂, ◌∙◌}
use mathlib.Core.List.{List, [], ◌++◌}
use Prim.Native.Nat.{ℕ, ◌*◌, ◌/◌}
use native.Mathlib.Numerals.{add-one}
use native.Mathlib.Omega.{arith}
use Rattle.std.specs.Simd.{first_chunks}
use lib.ListN.{drop, get_or, length, length-drop, length-replicate, replicate, set, take}
use lib.Seq.{take_all}
use Rattle.rule.specs.declared.Rule.{Rule}
use Rattle.rule.specs.Meaning.{RULES}
use Rattle.rule.specs.accept.Accept.{no_rule}
use Rattle.search.proofs.rows.Copies.{all_copied, copied}
use Rattle.outside.specs.handing.Handed.{rule_in}
use Rattle.keeping.specs.kept_numbers.Numbers.{RULES_AT}
use Rattle.keeping.specs.kept_numbers.route.Reading.{rules_in}
use Rattle.keeping.proofs.kept_read.Found.{rule_read, rules_many}
use Rattle.keeping.proofs.kept_read.rules_in.Goals as goal

pub loop-place-preserved : goal.loop-place-preserved
loop-place-preserved c =
    let ns = c.args.numbers.now in
    let rs = rules_in ns in
    let i = c.loop-place.place in
    let h : length rs ≡ RULES = rules_many ns in
    let long : length (drop RULES_AT ns) ≡ 4 * RULES = omega (arith, length-drop RULES_AT ns) in
    let many = ap (λ (n : ℕ). n / 4) long in
    let all : take 800 (drop RULES_AT ns) ≡ drop RULES_AT ns = take_all 800 (drop RULES_AT ns) (omega (arith, long)) in
    let rows = c.as_chunks.ensures.front ∙ ap (λ (l : List ℕ). first_chunks 4 (length l / 4) l) all ∙ ap (λ (n : ℕ). first_chunks 4 n (drop RULES_AT ns)) many in
    let here : length c.as_chunks.result.0.now ≡ RULES = c.as_chunks.ensures.front_len ∙ ap (λ (l : List ℕ). length l / 4) all ∙ many in
    ap₂ (λ (x : List Rule) (r : Rule). set x i r) c.loop-place.invariant
    (c.rule_in.ensures ∙ ap (λ (l : List (List ℕ)). rule_in (get_or l i [])) rows ∙ rule_read ns i)
    ∙ copied rs (replicate RULES no_rule) i no_rule (omega arith) (omega (arith, length-replicate RULES no_rule))
    ∙ ap (λ (j : ℕ). take j rs ++ drop j (replicate RULES no_rule)) (sym (add-one i))

pub returns : goal.returns
returns c =
    let rs = rules_in c.args.numbers.now in
    let h : length rs ≡ RULES = rules_many c.args.numbers.now in
    c.loop-place.invariant ∙ all_copied rs (replicate RULES no_rule) c.loop-place.place (omega arith) (omega (arith, length-replicate RULES no_rule))
