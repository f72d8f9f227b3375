-- `line_at` meets its contract: the bytes up to the line's end are the line. Assumes nothing.
use mathlib.Core.Path.{◌≡◌, ap, ◌∙◌}
use Prim.Native.Nat.{ℕ, ◌-◌}
use native.Mathlib.Omega.{arith}
use lib.ListN.{drop, length, take}
use Rattle.frame.specs.input_line.Lines.{line_of}
use Rattle.frame.proofs.input_line.Lines.{line_prefix}
use Rattle.frame.proofs.input_line.line_at.Goals as goal

pub returns : goal.returns
returns c =
    let rest = drop c.args.start c.args.bytes.now in
    let e : c.line_end-end.result - c.args.start ≡ length (line_of rest) = omega (arith, c.line_end-end.ensures.0) in
    ap (λ (n : ℕ). take n rest) e ∙ line_prefix rest
