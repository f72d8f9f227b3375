-- `written` meets its contract: head, marks and rules are put one after another, and fill the numbers. Assumes nothing.
use mathlib.Core.Path.{ap, ◌∙◌}
use mathlib.Core.List.{List, ◌++◌}
use Prim.Native.Nat.{ℕ}
use lib.ListN.{drop, length-replicate, replicate}
use Rattle.keeping.specs.kept_numbers.Numbers.{HEAD, NUMBERS}
use Rattle.keeping.proofs.kept_put.Together.{put_together}
use Rattle.keeping.proofs.kept_put.written.Goals as goal

pub returns : goal.returns
returns c =
    let head = ap (λ (l : List ℕ). l ++ drop HEAD (replicate NUMBERS 0)) (c.copy_from_slice.ensures.after ∙ c.head_of.ensures) in
    put_together c.args.sheet (replicate NUMBERS 0) _ (length-replicate {A = ℕ} NUMBERS 0) head _ c.put_marks.ensures.marks_len c.put_marks.ensures.numbers_after _ c.put_rules.ensures
