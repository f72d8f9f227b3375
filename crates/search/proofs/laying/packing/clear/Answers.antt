-- `clear` meets its contract. The loop's invariant: the places from n up to i have no rule, and the others are as they were. Assumes nothing.
use mathlib.Core.Path.{◌≡◌, sym, ap, ◌∙◌}
use mathlib.Core.List.{List, ◌++◌}
use Prim.Native.Nat.{ℕ, ◌-◌}
use native.Mathlib.Nat.{sub_self}
use native.Mathlib.Omega.{arith}
use lib.ListN.{drop, replicate, set, take, take-append-drop}
use Rattle.search.specs.rows.route.Rows.{no_row}
use Rattle.search.proofs.rows.Copies.{cleared}
use Rattle.search.proofs.laying.packing.clear.Goals as goal

pub loop-i-init : goal.loop-i-init
loop-i-init c =
    (omega arith, omega arith, sym (take-append-drop c.args.n c.args.rows.now) ∙ ap (λ (k : ℕ). take c.args.n c.args.rows.now ++ (replicate k no_row ++ drop c.args.n c.args.rows.now)) (sym (sub_self c.args.n)))

pub overflow_step-i : goal.overflow_step-i
overflow_step-i c = omega arith

pub loop-i-smaller : goal.loop-i-smaller
loop-i-smaller c = omega arith

pub loop-i-preserved : goal.loop-i-preserved
loop-i-preserved c = (
  omega arith,
  omega arith,
  ap (λ (x : List (List ℕ)). set x c.loop-i.i no_row) c.loop-i.invariant.2 ∙ cleared c.args.rows.now c.args.n c.loop-i.i no_row (omega arith) (omega arith),
)

pub returns : goal.returns
returns c =
    let e : c.loop-i.i ≡ c.args.m = omega arith in
    c.loop-i.invariant.2 ∙ ap (λ (i : ℕ). take c.args.n c.args.rows.now ++ (replicate (i - c.args.n) no_row ++ drop i c.args.rows.now)) e
