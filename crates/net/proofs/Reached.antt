-- What holds where a run starts, and is kept by each step, holds where it ends. Assumes nothing.
use mathlib.Core.Path.{◌≡◌, refl, subst⁻¹}
use mathlib.Core.Bool.{Bool, true, false}
use mathlib.Core.List.{List}
use mathlib.Core.Logic.{◌⊎◌, inl, inr, ⊎_elim}
use Prim.Native.Nat.{ℕ, zero, suc, ◌≤◌, ◌<◌}
use native.Mathlib.Decide.{dec_le}
use native.Mathlib.Omega.{arith}
use Rattle.net.specs.declared.Ended.TheVariants.{Empty, Spent, Steady}
use Rattle.net.specs.declared.net_step.Join.{Join}
use Rattle.net.specs.route.Run.{Stand, Stop, goes, next, stop}
use Rattle.net.proofs.Going.{goes-empty, goes-next, goes_spent, goes_steady}

pub told : (b : Bool) → (b ≡ true) ⊎ (b ≡ false)
told true = inl refl
told false = inr refl

-- P of the steps left to pay for and of where the run stands, and Q of how it ended
module _ (w : ℕ) (js : List Join) (m : ℕ) (P : ℕ → Stand → Type 0) (Q : Stop → Type 0)
    (keeps : (k : ℕ) (s : Stand) → s.empty ≡ false → s.quiet < m → P (suc k) s → P k (next w js m s))
    (by_empty : (k : ℕ) (s : Stand) → s.empty ≡ true → P k s → Q (stop Empty s))
    (by_steady : (k : ℕ) (s : Stand) → s.empty ≡ false → m ≤ s.quiet → P k s → Q (stop Steady s))
    (by_spending : (s : Stand) → s.empty ≡ false → s.quiet < m → P 0 s → Q (stop Spent s)) where
  pub reach : (k : ℕ) (s : Stand) → P k s → Q (goes w js m k s)
  reach zero s h =
      ⊎_elim (λ e. subst⁻¹ Q (goes-empty w js m 0 s e) (by_empty 0 s e h))
      (λ e.
      elim (dec_le m s.quiet) [
        | yes l ↦ subst⁻¹ Q (goes_steady w js m s e 0 l) (by_steady 0 s e l h)
        | no l ↦
            let q : s.quiet < m = omega arith in
            subst⁻¹ Q (goes_spent w js m s e q) (by_spending s e q h)
      ])
      (told s.empty)
  reach (suc k) s h =
      ⊎_elim (λ e. subst⁻¹ Q (goes-empty w js m (suc k) s e) (by_empty (suc k) s e h))
      (λ e.
      elim (dec_le m s.quiet) [
        | yes l ↦ subst⁻¹ Q (goes_steady w js m s e (suc k) l) (by_steady (suc k) s e l h)
        | no l ↦
            let q : s.quiet < m = omega arith in
            subst⁻¹ Q (goes-next w js m s e q k) (reach k (next w js m s) (keeps k s e q h))
      ])
      (told s.empty)
