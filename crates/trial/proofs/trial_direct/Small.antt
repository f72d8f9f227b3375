-- A narrow width has at most 256 words. Assumes nothing.
use Prim.Native.Nat.{ℕ, ◌^◌, ◌≤◌}
use native.Mathlib.Omega.{arith}
use lib.Pow.{pow_mono}
use Rattle.word.specs.Word.{top}
use Rattle.word.proofs.Widths.{top-suc}

pub top_small : (w : ℕ) → w ≤ 8 → top w ≤ 255
top_small w h =
    let m : 2 ^ w ≤ 256 = pow_mono {i = w} {j = 8} h in
    omega (arith, top-suc w)
