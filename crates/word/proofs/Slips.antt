-- "Taking x <= x + 1 as true of machine words": at every width it fails at the top word. Assumes nothing.
use Rattle.std.proofs.Common.{◌≡◌, ℕ, ◌≤◌, false, leb, ⊎_elim, arith}
use borrow.Author.Tests.{lt-leb}
use Rattle.word.specs.Word.{top, plus}
use Rattle.word.proofs.Sums.{plus_cases}
use Rattle.word.proofs.Widths.{halves, half_pos}

pub one_more_is_no_bound : (w : ℕ) → 1 ≤ w → leb (top w) (plus w (top w) 1) ≡ false
one_more_is_no_bound w h =
    let t : 1 ≤ top w = omega (arith, halves w h, half_pos w) in
    lt-leb (top w) (plus w (top w) 1)
    (⊎_elim (λ c. absurd (omega arith)) (λ c. omega arith) (plus_cases w (top w) 1 (omega arith) t))
