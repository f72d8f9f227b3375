-- `direct::signed` meets its contract: a difference of two small numbers fits. Assumes nothing.
use mathlib.Core.Path.{sym, ap₂, subst}
use Prim.Native.Nat.{ℕ, zero, suc, ◌≤◌, ◌<◌}
use native.Mathlib.Omega.{arith}
use borrow.Author.Tests.{lt-ltb}
use lib.IntN.{pos, ◌-ℤ◌}
use mir.Syntax.{w64}
use mir.Val.{SFits}
use mir.ValLaws.{to_z_pos}
use Rattle.trial.proofs.trial_direct.direct.signed.Goals as goal

less : (a n : ℕ) → a < n → n ≤ 256 → SFits w64 (pos a -ℤ pos n)
less a zero h i = absurd (omega arith)
less a (suc t) h i = rw (lt-ltb a (suc t) h) (record { sfits = omega arith })

pub overflow_sub-result : goal.overflow_sub-result
overflow_sub-result c =
    subst (SFits w64) (sym (ap₂ ◌-ℤ◌ (to_z_pos w64 c.args.a (omega arith)) (to_z_pos w64 c.args.n (omega arith)))) (less _ _ c.requires.0 c.requires.1)
