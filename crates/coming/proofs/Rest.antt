-- What is left of a list from a place on, whole. Assumes nothing.
use mathlib.Core.Path.{◌≡◌, ap, ◌∙◌}
use mathlib.Core.List.{List}
use Prim.Native.Nat.{ℕ, ◌-◌}
use native.Mathlib.Omega.{arith}
use lib.ListN.{drop, length, length-drop, take}
use lib.Seq.{take_all}

pub rest : (l : List ℕ) (at : ℕ) → take (length l - at) (drop at l) ≡ drop at l
rest l at = take_all (length l - at) (drop at l) (omega (arith, length-drop at l))

pub rest_length : (l : List ℕ) (at : ℕ) → length (take (length l - at) (drop at l)) ≡ length l - at
rest_length l at = ap length (rest l at) ∙ length-drop at l
