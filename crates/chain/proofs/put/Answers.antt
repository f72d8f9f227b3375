-- `put` meets its contract: three stores in a row are the three numbers in their place. Assumes nothing.
use mathlib.Core.Path.{◌≡◌, ap₂, ◌∙◌}
use mathlib.Core.List.{List, [], ◌∷◌, ◌++◌, append_assoc}
use Prim.Native.Nat.{ℕ, suc, ◌+◌, ◌≤◌}
use native.Mathlib.Omega.{arith}
use lib.ListN.{drop, length, length-set, set, take}
use lib.Seq.{sets-eq}
use Rattle.chain.proofs.put.Goals as goal

three : (l : List ℕ) (at a b d : ℕ) → at + 3 ≤ length l
    → set (set (set l at a) (at + 1) b) (at + 2) d ≡ take at l ++ a ∷ b ∷ d ∷ drop (at + 3) l
three l at a b d h =
    let one : at + 1 ≡ suc at = omega arith in
    let two : at + 2 ≡ suc (suc at) = omega arith in
    ap₂ (λ (i j : ℕ). set (set (set l at a) i b) j d) one two
    ∙ sets-eq (a ∷ b ∷ d ∷ []) l at h
    ∙ append_assoc (take at l) (a ∷ b ∷ d ∷ []) (drop (at + 3) l)

pub bounds-out-at-2 : goal.bounds-out-at-2
bounds-out-at-2 c = simp length-set (omega arith)

pub bounds-out-at-3 : goal.bounds-out-at-3
bounds-out-at-3 c = simp length-set (omega arith)

pub returns : goal.returns
returns c = three _ _ _ _ _ c.requires
