-- `marks_in` meets its contract. The loop's invariant: the marks passed are read, and the other places are as they were. Assumes nothing.
use mathlib.Core.Path.{◌≡◌, sym, ap, ◌∙◌}
use mathlib.Core.List.{List, ◌++◌}
use Prim.Native.Nat.{ℕ}
use native.Mathlib.Numerals.{add-one}
use native.Mathlib.Omega.{arith}
use lib.ListN.{drop, get_or, length, length-replicate, replicate, set, take}
use Rattle.page.specs.Page.{MARKS}
use Rattle.search.proofs.rows.Copies.{all_copied, copied}
use Rattle.keeping.specs.kept_numbers.Numbers.{NUMBERS}
use Rattle.keeping.specs.kept_numbers.route.Reading.{marks_in}
use Rattle.keeping.proofs.kept_read.Found.{marks_many}
use Rattle.keeping.proofs.kept_read.marks_in.Goals as goal

pub loop-place-preserved : goal.loop-place-preserved
unfolding marks_in
loop-place-preserved c =
    let ns = c.args.numbers.now in
    let i = c.loop-place.place in
    let many : length ns ≡ NUMBERS = omega arith in
    let h : length (marks_in ns) ≡ MARKS = marks_many ns many in
    ap (λ (x : List ℕ). set x i (get_or (marks_in ns) i 0)) c.loop-place.invariant
    ∙ copied (marks_in ns) (replicate MARKS 0) i 0 (omega arith) (omega (arith, length-replicate {A = ℕ} MARKS 0))
    ∙ ap (λ (j : ℕ). take j (marks_in ns) ++ drop j (replicate MARKS 0)) (sym (add-one i))

pub returns : goal.returns
returns c =
    let ns = c.args.numbers.now in
    let many : length ns ≡ NUMBERS = omega arith in
    let h : length (marks_in ns) ≡ MARKS = marks_many ns many in
    c.loop-place.invariant ∙ all_copied (marks_in ns) (replicate MARKS 0) c.loop-place.place (omega arith) (omega (arith, length-replicate {A = ℕ} MARKS 0))
