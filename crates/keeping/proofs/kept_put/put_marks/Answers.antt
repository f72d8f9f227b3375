-- `put_marks` meets its contract. The loop's invariant: the marks passed are put, and the other numbers are as they were. Assumes nothing.
use mathlib.Core.Path.{◌≡◌, refl, ap, ◌∙◌}
use mathlib.Core.List.{List}
use Prim.Native.Nat.{ℕ, ◌+◌}
use native.Mathlib.Omega.{arith}
use lib.ListN.{get_or, set}
use lib.Seq.{paste}
use Rattle.page.specs.Page.{MARKS}
use Rattle.keeping.specs.kept_numbers.Numbers.{HEAD}
use Rattle.keeping.proofs.kept_put.Placed.{all_put, stored}
use Rattle.keeping.proofs.kept_put.put_marks.Goals as goal

pub loop-place-preserved : goal.loop-place-preserved
loop-place-preserved c =
    let i = c.loop-place.place in
    let v = get_or c.args.marks i 0 in
    ap (λ (x : List ℕ). set x (HEAD + i) v) c.loop-place.invariant
    ∙ stored c.args.numbers.now HEAD c.args.marks i (i + 1) (HEAD + i) v refl (omega arith) refl (omega arith) (omega arith)

pub returns : goal.returns
returns c =
    let e : c.loop-place.place ≡ MARKS = omega arith in
    record {
      numbers_after = c.loop-place.invariant ∙ ap (paste c.args.numbers.now HEAD c.args.marks) e ∙ all_put c.args.numbers.now HEAD c.args.marks MARKS (omega arith);
      marks_len = omega arith;
    }
