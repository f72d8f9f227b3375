-- `direct::size` meets its contract: one bit, shifted up, is one more than the top word. Assumes nothing.
use mathlib.Core.Path.{◌≡◌, sym, ap, ◌∙◌}
use Prim.Native.Nat.{ℕ, ◌*◌, ◌%◌, ◌^◌, ◌≤◌}
use native.Mathlib.Nat.{one-mul, mod-eq_of_lt}
use native.Mathlib.Omega.{arith}
use lib.Pow.{pow-lt}
use Rattle.word.proofs.Widths.{top-suc}
use Rattle.trial.proofs.trial_direct.Small.{top_small}
use Rattle.trial.proofs.trial_direct.direct.size.Goals as goal

shifted : (w : ℕ) → w ≤ 8 → (1 * 2 ^ w) % 2 ^ 64 ≡ 2 ^ w
shifted w h = ap (λ (n : ℕ). n % 2 ^ 64) (one-mul (2 ^ w)) ∙ mod-eq_of_lt (pow-lt {i = w} {j = 64} (omega arith))

pub returns : goal.returns
returns c =
    let e = shifted c.args.width.bits c.requires.high in
    (e ∙ sym (top-suc c.args.width.bits), omega (arith, e, top-suc c.args.width.bits, top_small c.args.width.bits c.requires.high))
