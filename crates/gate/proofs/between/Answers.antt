-- `between` meets its contract: no run leaves its half, so nothing wraps. Assumes nothing.
use mathlib.Core.Path.{◌≡◌, ap, ap₂, ◌∙◌}
use Prim.Native.Nat.{ℕ, ◌+◌, ◌≤◌}
use native.Mathlib.Omega.{arith}
use Rattle.word.specs.Word.{half, plus}
use Rattle.rule.specs.declared.Rule.{Rule}
use Rattle.gate.specs.declared.Four.{Four}
use Rattle.gate.specs.declared.Run.{Run}
use Rattle.gate.specs.Gate.{failing}
use Rattle.gate.specs.route.Route.{IsLimit, between_rules, run_of}
use Rattle.gate.proofs.Limits.{halved, run_ends, turned_limit, whole}
use Rattle.gate.proofs.between.Goals as goal

-- a word with its sign turned, as the code has it
turned : (p h q : ℕ) → IsLimit p → h ≡ half 32 → q ≡ plus 32 p h → (q ≡ plus 32 p (half 32)) × IsLimit q
turned p h q l e f = let r : q ≡ plus 32 p (half 32) = f ∙ ap (plus 32 p) e in (r, rw r (turned_limit p l))

-- what `fitting` gives of the upper half lies in it
upper_ends : (low h a b : ℕ) (u : Run) → IsLimit low → h ≡ half 32 → b ≡ plus 32 low h → u ≡ run_of a b → (u.under ≤ half 32) × (u.over ≤ half 32)
upper_ends low h a b u l e f g = rw g (run_ends a b (turned low h b l e f).1)

-- the four, from what the calls gave
from_calls : (low high h a b : ℕ) (l u : Run) (f : Four) → h ≡ half 32 → a ≡ plus 32 high h → b ≡ plus 32 low h → l ≡ run_of low high → u ≡ run_of a b
    → f.first ≡ failing 0 l.under → f.second ≡ failing l.over h → f.third ≡ failing h (h + u.under) → f.fourth ≡ failing (h + u.over) (h + h)
    → f ≡ between_rules low high
unfolding between_rules
from_calls low high h a b l u f eh ea eb el eu p q r s =
    ap₂ (λ (x y : Rule). mk x y f.third f.fourth) p q
    ∙ ap₂ (λ (x y : Rule). mk (failing 0 l.under) (failing l.over h) x y) r s
    ∙ ap (λ (h : ℕ). at h l u) eh
    ∙ ap₂ (at (half 32)) el (eu ∙ ap₂ run_of (ea ∙ ap (plus 32 high) eh) (eb ∙ ap (plus 32 low) eh))
  where
    mk : Rule → Rule → Rule → Rule → Four
    mk a b c d = record { first = a; second = b; third = c; fourth = d }

    at : ℕ → Run → Run → Four
    at h l u = mk (failing 0 l.under) (failing l.over h) (failing h (h + u.under)) (failing (h + u.over) (h + h))

pub fitting-upper-requires : goal.fitting-upper-requires
fitting-upper-requires c = record { limit = (turned _ _ _ c.requires.limit_2 c.half-half.ensures c.add.ensures).1; limit_2 = (turned _ _ _ c.requires.limit c.half-half.ensures c.add-2.ensures).1 }

pub failing-requires : goal.failing-requires
failing-requires c =
    omega (arith, ap (λ (r : Run). r.under) c.fitting-lower.ensures, (run_ends c.args.low c.args.high c.requires.limit_2).0, halved, whole)

pub failing-requires-2 : goal.failing-requires-2
failing-requires-2 c = omega (arith, c.half-half.ensures, halved, whole)

pub overflow_add-half : goal.overflow_add-half
overflow_add-half c =
    let ends = upper_ends _ _ _ _ _ c.requires.limit c.half-half.ensures c.add-2.ensures c.fitting-upper.ensures in
    record { fits = omega (arith, ends.0, c.half-half.ensures, halved) }

pub failing-requires-3 : goal.failing-requires-3
failing-requires-3 c =
    let ends = upper_ends _ _ _ _ _ c.requires.limit c.half-half.ensures c.add-2.ensures c.fitting-upper.ensures in
    omega (arith, ends.0, halved, whole)

pub overflow_add-half-2 : goal.overflow_add-half-2
overflow_add-half-2 c =
    let ends = upper_ends _ _ _ _ _ c.requires.limit c.half-half.ensures c.add-2.ensures c.fitting-upper.ensures in
    record { fits = omega (arith, ends.1, c.half-half.ensures, halved) }

pub overflow_add-half-3 : goal.overflow_add-half-3
overflow_add-half-3 c = record { fits = omega (arith, c.half-half.ensures, halved) }

pub failing-requires-4 : goal.failing-requires-4
failing-requires-4 c = omega (arith, c.half-half.ensures, halved, whole)

pub returns : goal.returns
returns c =
    from_calls _ _ _ _ _ _ _ _ c.half-half.ensures c.add.ensures c.add-2.ensures
    c.fitting-lower.ensures c.fitting-upper.ensures
    c.failing.ensures c.failing-2.ensures c.failing-3.ensures c.failing-4.ensures
